-- The results so far are those of the jobs taken, and but for these the pass is as it was. Each turn leaves one job less to take.
use Rattle.std.proofs.Common.{◌≡◌, ◌-◌, length}
use Rattle.crossbeam_queue.specs.Passes.{IsPassOf, view}
use Rattle.bfs_workers.specs.Results.{GivesAll}
use Rattle.bfs_workers.specs.Rule.{account}
use Rattle.bfs_workers.proofs.queue.work.Given as goal

abbrev pub invariant-loop-job : goal.invariant-loop-job
invariant-loop-job g l = record {
  queue : IsPassOf l.queue l.pass;
  same : view l.pass ≡ account (view l.fn.seat.pass).parts (view l.fn.seat.pass).put (view l.pass).taken;
  given : GivesAll g.G.Gate.ran l.tree (view l.pass).taken l.dones.items;
}

abbrev pub decreases-loop-job : goal.decreases-loop-job
decreases-loop-job g l = length (view l.pass).put - length (view l.pass).taken
