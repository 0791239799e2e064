-- What was taken can be run, and leaves one job less to take.
use Rattle.std.proofs.Common.{◌∙◌, ap, arith}
use Rattle.crossbeam_queue.specs.Passes.{view}
use Rattle.bfs_workers.specs.declared.rule.Account.{Account}
use Rattle.bfs_workers.proofs.Steps.{learns, takes}
use Rattle.bfs_workers.proofs.Working.{fewer_left, gives_more, same_but_taken, taken_can_run}
use Rattle.bfs_workers.proofs.queue.work.Goals as goal

pub pop_as-requires-clause-rule : goal.pop_as-requires-clause-rule
pop_as-requires-clause-rule g c =
    let parts = ap (λ (pass : Account). pass.parts) c.loop-job.invariant.same in
    let some_part = c.requires.pass.1 in
    (takes c.loop-job.pass.id (view c.loop-job.pass) (omega arith), learns c.loop-job.pass.id (view c.loop-job.pass))

pub run-requires : goal.run-requires
run-requires g c =
    taken_can_run c.args.tree.now (view c.args.seat.pass).put (view c.loop-job.pass) (view c.pop_as.new.pass) c.in-Some.job (ap (λ (pass : Account). pass.put) c.loop-job.invariant.same) c.requires.jobs c.in-Some.ensures.rule

pub loop-job-smaller : goal.loop-job-smaller
loop-job-smaller g c = fewer_left (view c.loop-job.pass) (view c.pop_as.new.pass) c.in-Some.job c.in-Some.ensures.rule

pub loop-job-preserved : goal.loop-job-preserved
loop-job-preserved g c =
    let before = c.loop-job.invariant in
    let queue = c.in-Some.ensures.queue in
    let took = c.in-Some.ensures.rule in
    let same = same_but_taken (view c.args.seat.pass).parts (view c.args.seat.pass).put (view c.loop-job.pass) (view c.pop_as.new.pass) c.in-Some.job before.same took in
    let given = gives_more g.G.Gate.ran c.args.tree.now (view c.loop-job.pass) (view c.pop_as.new.pass) c.in-Some.job c.loop-job.dones.items c.in_ok-run.field-0 took before.given c.in_ok-run.ensures in
    record { queue = (queue.0 ∙ before.queue.0, queue.2 ∙ before.queue.1); same = same; given = rw c.in_ok-push.ensures.items given }
