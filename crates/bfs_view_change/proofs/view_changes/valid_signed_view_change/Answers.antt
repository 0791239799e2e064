use Rattle.std.proofs.Common.{◌∙◌, sym}
use Rattle.bfs_view_change.proofs.Prepared.{valid_near}
use Rattle.bfs_view_change.proofs.view_changes.valid_signed_view_change.Goals as goal

pub returns-clause-near : goal.returns-clause-near
returns-clause-near c = λ valid. valid_near c.args.keys.now c.args.signed.now (sym c.is_valid_signed.ensures ∙ valid)
