-- One job more can be run.
use Rattle.std.proofs.Common.{sym, subst}
use Rattle.std.specs.List.{All}
use Rattle.std.proofs.lemmas.List.Elements.{All-push}
use Rattle.bfs_handover.specs.Jobs.{CanRun}
use Rattle.tests_jobs.proofs.jobs.jobs_of.Goals as goal

pub loop-request-preserved : goal.loop-request-preserved
loop-request-preserved c =
    let tree = c.args.tree.now in
    subst (All (CanRun tree)) (sym c.in_ok-push.ensures.items) (All-push (CanRun tree) c.loop-request.jobs.items c.in_ok-job_of.field-0 c.loop-request.invariant c.in_ok-job_of.ensures)
