-- What is left of the requests gives, behind the replies so far, what all of them give.
use Rattle.std.proofs.Common.{◌≤◌, ◌+◌, IsTrue, length}
use Rattle.bfs_model.specs.Server.Serial.{ordinal_after}
use Rattle.bfs_tree.specs.Tree.{at_home, reach_of}
use Rattle.bfs_parallel.proofs.InOrder.{IsGoingOn}
use Rattle.bfs_parallel.proofs.requests.execute_in_order.Given as goal

abbrev pub invariant-loop-done : goal.invariant-loop-done
invariant-loop-done g l = record {
  whole : IsTrue ((reach_of l.tree).whole);
  within : l.part.first + l.count ≤ length l.part.batch.now.requests;
  going : IsGoingOn g.G.Gate.ran l.part.time l.part.batch.now.requests l.part.first l.count within (at_home l.fn.tree) l.part.ordinal l.fn.replies l.done (at_home l.tree) (ordinal_after l.part.ordinal l.done) l.replies;
}
