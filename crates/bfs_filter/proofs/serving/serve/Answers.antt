use Rattle.bfs_filter.proofs.Folding.{stops_more}
use Rattle.bfs_filter.proofs.serving.serve.Goals as goal

pub returns-in-Err-clause-stopped : goal.returns-in-Err-clause-stopped
returns-in-Err-clause-stopped g c = stops_more g.M.Machine.takes c.args.limits.now c.in-Err.error _ _ _ c.loop.invariant c.in-Err.ensures.stopped
