-- The pass has all parts, so it may put a job.
use Rattle.std.proofs.Common.{ap}
use Rattle.crossbeam_queue.specs.Passes.{ruled_capacity, view}
use Rattle.bfs_workers.specs.declared.rule.Account.{Account}
use Rattle.bfs_workers.proofs.Steps.{puts}
use Rattle.bfs_workers.proofs.queue.fill.Goals as goal

pub push_as-requires-clause-rule : goal.push_as-requires-clause-rule
push_as-requires-clause-rule g c =
    (puts (ruled_capacity c.args.queue.now) c.loop-job.pass.id (view c.loop-job.pass) c.in-Some.job (ap (λ (pass : Account). pass.parts) c.loop-job.invariant.all), λ _ _ _ _. tt)
