-- What was put can be run, before and after the workers took of it, and what came back can be.
use Rattle.std.proofs.Common.{ap, subst, sym}
use Rattle.crossbeam_queue.specs.Passes.{view}
use Rattle.bfs_workers.specs.Results.{CanRunAll}
use Rattle.bfs_workers.specs.declared.rule.Account.{Account}
use Rattle.bfs_workers.proofs.Queued.{back_can_run, put_can_run}
use Rattle.bfs_workers.proofs.queue.run_queue.Goals as goal

pub run_workers-requires-clause-jobs : goal.run_workers-requires-clause-jobs
run_workers-requires-clause-jobs g c κs within = put_can_run c.args.tree.now c.args.jobs.items (view c.in_ok-pass.pass).put c.in_ok-pass.back.items c.in_ok-pass.ensures.jobs c.requires

pub work-requires-clause-jobs : goal.work-requires-clause-jobs
work-requires-clause-jobs g c =
    let can_run = put_can_run c.args.tree.now c.args.jobs.items (view c.in_ok-pass.pass).put c.in_ok-pass.back.items c.in_ok-pass.ensures.jobs c.requires in
    subst (CanRunAll c.args.tree.now) (sym (ap (λ (pass : Account). pass.put) c.in_ok-pass-2.ensures.pass.1)) can_run

pub run_here-requires-2 : goal.run_here-requires-2
run_here-requires-2 g c = back_can_run c.args.tree.now c.args.jobs.items (view c.in_ok-pass.pass).put c.in_ok-pass.back.items c.in_ok-pass.ensures.jobs c.requires
