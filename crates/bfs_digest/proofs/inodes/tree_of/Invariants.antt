use Rattle.std.proofs.Common.{◌-◌}
use Rattle.std.specs.Prelude.{IsTrue}
use Rattle.bfs_tree.specs.Tree.{at_home, reach_of}
use Rattle.bfs_digest.proofs.Building.{TreesLeft}
use Rattle.bfs_digest.proofs.inodes.tree_of.Given as goal

abbrev pub invariant-loop-record : goal.invariant-loop-record
invariant-loop-record l = record {
  whole : IsTrue ((reach_of l.tree).whole);
  built : TreesLeft l.count l.records (l.count - l._record) l.reader (at_home l.tree);
}
