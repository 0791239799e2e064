-- An error at one line, behind those before it.
use Rattle.std.proofs.Common.{◌<◌, length, sym, arith}
use Rattle.std.proofs.lemmas.Result.{err_from_is_err_and}
use Rattle.bfs_replay.specs.Output.{answered_line}
use Rattle.bfs_replay.proofs.Writes.{stops_within}
use Rattle.bfs_replay.proofs.results.print_answered.Goals as goal

pub returns-in_err-print_if_answered : goal.returns-in_err-print_if_answered
returns-in_err-print_if_answered g c =
    let within : c.loop-tally.tally-index < length c.args.tallies.now = omega arith in
    let p = err_from_is_err_and c.from_residual.result c.from_residual.ensures.1 in
    rw (p.1, p.2) (stops_within answered_line c.args.tallies.now c.loop-tally.tally-index _ c.tally-item.result _ c.args.output.now c.loop-tally.output _ within (sym c.tally-item.is) c.loop-tally.invariant c.in_err-print_if_answered.ensures)
