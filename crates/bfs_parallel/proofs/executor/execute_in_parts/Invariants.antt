-- What is left of the part gives, behind the replies so far, what all of it gives.
use Rattle.std.proofs.Common.{◌≡◌, ◌++◌, ℕ, List, IsTrue, length}
use Rattle.bfs_model.specs.Server.Serial.{inodes_after, replies_to}
use Rattle.bfs_model.specs.Server.WellFormed.{IsWellFormed}
use Rattle.bfs_levels.specs.Parts.{requests_in}
use Rattle.bfs_tree.specs.Tree.{at_home, reach_of}
use Rattle.bfs_parallel.specs.Ran.{AllRan}
use Rattle.bfs_parallel.proofs.executor.execute_in_parts.Given as goal

abbrev pub invariant-loop-left : goal.invariant-loop-left
invariant-loop-left g l = record {
  whole : IsTrue ((reach_of l.tree).whole);
  formed : IsWellFormed (record { tree = at_home l.tree; next_ordinal = l.left.ordinal; last_time = l.left.time });
  placed : length l.replies ≡ l.left.first;
  inodes : inodes_after (at_home l.tree) l.left.ordinal l.left.time (requests_in l.left) ≡ inodes_after (at_home l.fn.tree) l.part.ordinal l.part.time (requests_in l.part);
  replies : l.replies ++ replies_to (at_home l.tree) l.left.ordinal l.left.time (requests_in l.left) ≡ replies_to (at_home l.fn.tree) l.part.ordinal l.part.time (requests_in l.part);
  ran : (more : List (List ℕ)) → AllRan g.G.Gate.ran l.left.first (requests_in l.left) more → AllRan g.G.Gate.ran l.part.first (requests_in l.part) (l.replies ++ more);
}

abbrev pub decreases-loop-left : goal.decreases-loop-left
decreases-loop-left g l = length (requests_in l.left)
