-- The lower levels are carried out, and the others wait.
use Rattle.std.proofs.Common.{◌≡◌, ◌++◌, ℕ, List, map}
use Rattle.std.specs.Prelude.{IsTrue}
use Rattle.bfs_footprint.specs.Seen.{footprint_seen}
use Rattle.bfs_tree.specs.Tree.{at_home, reach_of}
use Rattle.bfs_parallel.proofs.Levelled.{IsOnItsWay}
use Rattle.bfs_parallel.proofs.levels.execute_levels.Given as goal

abbrev pub invariant-loop-numbers : goal.invariant-loop-numbers
invariant-loop-numbers g l = record {
  whole : IsTrue ((reach_of l.tree).whole);
  texts : List (List ℕ);
  behind : l.replies ≡ l.fn.replies ++ texts;
  way : IsOnItsWay g.G.Gate.ran (at_home l.fn.tree) l.part.first l.part.ordinal l.part.time l.part.batch.now.requests (map footprint_seen l.group.footprints.items) l.group.level_of.items (at_home l.tree) texts l.numbers-iterator.rest.items;
}
