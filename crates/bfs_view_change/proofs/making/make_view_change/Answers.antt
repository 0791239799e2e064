use Rattle.std.proofs.Common.{◌≡◌, sym, subst}
use Rattle.std.proofs.lemmas.Result.{IfOk-weaker}
use Rattle.bfs_messages.specs.Messages.{ViewChange}
use Rattle.bfs_messages.specs.declared.signed.Signed.{Signed}
use Rattle.bfs_view_change.specs.Changes.Making.{change_of, signed_change}
use Rattle.bfs_view_change.specs.Inside.Near.{IsNear}
use Rattle.bfs_view_change.proofs.Made.{made_near}
use Rattle.bfs_view_change.proofs.making.make_view_change.Goals as goal

pub returns-clause-near : goal.returns-clause-near
returns-clause-near c =
    IfOk-weaker c.signed_change.result (λ change. change ≡ signed_change c.args.keys.now (change_of c.args.order.now c.args.view)) (λ change. IsNear change.message)
    (λ change is. subst (λ (s : Signed ViewChange). IsNear s.message) (sym is) (made_near c.args.order.now c.args.view)) c.signed_change.ensures
