use Rattle.std.proofs.Common.{◌∙◌, ◌∷◌, [], ap, arith}
use Rattle.bfs_messages.specs.declared.signed.Signed.{Signed}
use Rattle.bfs_messages.specs.declared.order_messages.OrderMessage.{OrderMessage}
use Rattle.bfs_log.specs.Showing.{backing}
use Rattle.bfs_log.proofs.Rowed.{found_in_row}
use Rattle.bfs_log.proofs.showing.backing_among.Goals as goal

pub loop-said-preserved : goal.loop-said-preserved
loop-said-preserved c =
    found_in_row c.args.f c.args.proposed.now c.args.row.now c.loop-said.said-index c.said-item.result _ _ _ c.in_ok-push_some.ensures c.loop-said.invariant
    (c.in_ok-backing_in.ensures ∙ ap (λ (m : Signed OrderMessage). backing c.args.f c.args.proposed.now (m ∷ [])) c.signed.ensures) (omega (arith, c.loop-said-test.true)) c.said-item.is
