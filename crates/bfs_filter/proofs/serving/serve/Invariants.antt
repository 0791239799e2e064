use Rattle.bfs_filter.specs.Runs.{Serves, standing}
use Rattle.bfs_filter.proofs.serving.serve.Given as goal

abbrev pub invariant-loop : goal.invariant-loop
invariant-loop g l =
    let remaining = g.R.Read.remaining in
    let contents = g.W.Write.contents in
    Serves g.M.Machine.takes l.limits (standing l.fn.machine (remaining l.fn.reader) (contents l.fn.writer))
    (standing l.machine (remaining l.reader) (contents l.writer))
