-- An error at one line, behind those before it.
use Rattle.std.proofs.Common.{◌<◌, length, refl, arith}
use Rattle.std.proofs.lemmas.Result.{err_from_is_err_and}
use Rattle.bfs_replay.specs.Output.{standing_line}
use Rattle.bfs_replay.proofs.Writes.{stops_within}
use Rattle.bfs_replay.proofs.standings.print_standings.Goals as goal

pub returns-in_err-print_standing : goal.returns-in_err-print_standing
returns-in_err-print_standing g c =
    let within : c.loop-standing.standing-index < length c.args.standings.now = omega arith in
    let p = err_from_is_err_and c.from_residual.result c.from_residual.ensures.1 in
    rw (p.1, p.2) (stops_within standing_line c.args.standings.now c.loop-standing.standing-index _ _ _ c.args.output.now c.loop-standing.output _ within refl c.loop-standing.invariant c.in_err-print_standing.ensures)
