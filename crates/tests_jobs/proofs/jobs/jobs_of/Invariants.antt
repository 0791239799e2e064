-- The jobs so far can be run.
use Rattle.std.specs.List.{All}
use Rattle.bfs_handover.specs.Jobs.{CanRun}
use Rattle.tests_jobs.proofs.jobs.jobs_of.Given as goal

abbrev pub invariant-loop-request : goal.invariant-loop-request
invariant-loop-request l = All (CanRun l.tree) l.jobs.items
