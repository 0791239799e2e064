use Rattle.std.proofs.Common.{ap, ◌∙◌}
use Rattle.bfs_messages.specs.Messages as model
use Rattle.bfs_messages.specs.declared.order_messages.OrderMessage.TheVariants.{PrePrepare}
use Rattle.bfs_messages.specs.Signing.{order_signed_by}
use Rattle.bfs_order.proofs.Proposals.{next_is_free}
use Rattle.bfs_order.proofs.order.Order.propose.Goals as goal

pub add_proposal-requires-clause-free : goal.add_proposal-requires-clause-free
add_proposal-requires-clause-free c =
    next_is_free c.args.keys.now c.args.self.now c.args.batch c.in_ok-try_clone.field-0
    (c.in_ok-try_clone.ensures ∙ c.in_ok-sent.ensures ∙ ap (λ (p : model.PrePrepare). order_signed_by c.args.keys.now (PrePrepare p)) c.own_proposal-own.ensures)
