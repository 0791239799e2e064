use Rattle.std.proofs.Common.{◌++◌}
use Rattle.std.proofs.lemmas.Result.{err_from_is_err_and}
use Rattle.bfs_replay.specs.Output.{answered_lines, view_lines}
use Rattle.bfs_replay.specs.Writing.{IsBeginning}
use Rattle.bfs_replay.proofs.Writes.{begins_behind, stops_behind}
use Rattle.bfs_replay.proofs.timeouts.print_timeout.Goals as goal

pub returns-in_err-print_answered : goal.returns-in_err-print_answered
returns-in_err-print_answered g c =
    let first = view_lines c.args.before c.args.view in
    let second = answered_lines c.args.waiting.now in
    let p = err_from_is_err_and c.from_residual-in_err-print_answered.result c.from_residual-in_err-print_answered.ensures.1 in
    rw (p.1, p.2) (stops_behind (λ written. IsBeginning written second) (λ written. IsBeginning written (first ++ second)) _ c.args.output.now c.print_view.new.output _ first c.in_ok-print_view.ensures
    (λ written part. begins_behind first written second part)
    c.in_err-print_answered.ensures)
