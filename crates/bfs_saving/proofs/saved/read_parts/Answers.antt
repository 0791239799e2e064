use Rattle.std.proofs.lemmas.Result.{err_from_is_err_and}
use Rattle.bfs_model.specs.Bytes.Formats.{then_from}
use Rattle.bfs_saving.specs.Certificates.{stable_from}
use Rattle.bfs_saving.specs.Items.{long_from, many_from}
use Rattle.bfs_saving.specs.Parts.{changes_from, new_view_from, order_from, requests_from}
use Rattle.bfs_saving.specs.Saved.{parts_from, state_from}
use Rattle.bfs_saving.proofs.Loops.{last_fails}
use Rattle.bfs_saving.proofs.saved.read_parts.Goals as goal

pub returns-in_err-own : goal.returns-in_err-own
unfolding parts_from
returns-in_err-own c =
    let p = err_from_is_err_and c.from_residual-in_err-own.result c.from_residual-in_err-own.ensures.1 in
    rw (p.1, p.2) (last_fails _ (then_from (order_from c.args.f c.args.me) (requests_from c.args.keys.now)) (then_from changes_from new_view_from) (then_from (stable_from c.args.f) (many_from state_from)) long_from
    c.args.reader.now _ _ _ _ _ _ c.in_err-own.field-0.0 c.in_ok-order.ensures c.in_ok-changes.ensures c.in_ok-stable.ensures c.in_err-own.ensures)
