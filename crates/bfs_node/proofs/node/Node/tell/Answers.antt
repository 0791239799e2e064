-- The CHECKPOINTs that were copied are those that may make its own stable.
use Rattle.std.proofs.Common.{◌∙◌, ℕ, ap}
use Rattle.bfs_messages.specs.Messages as model
use Rattle.bfs_messages.specs.declared.order_messages.OrderMessage.TheVariants.{Checkpoint}
use Rattle.bfs_messages.specs.Signing.{order_signed_by}
use Rattle.bfs_node.specs.Nodes.{Node}
use Rattle.bfs_node.proofs.Stable.{own_certificate, told_now}
use Rattle.bfs_node.proofs.node.Node.tell.Goals as goal

pub settle_at-requires : goal.settle_at-requires
settle_at-requires c low =
    let order = c.self.inside.order in
    let signed = c.in_ok-signed.signed in
    own_certificate c.self.inside.keys order c.args.number c.digest-digest.result.now signed c.on_checkpoint.new.self c.in_ok-stable.stable
    (c.in_ok-signed.ensures ∙ ap (λ (own : model.Checkpoint). order_signed_by c.self.inside.keys (Checkpoint own)) (c.new-own.ensures ∙ ap (λ (me : ℕ). record { sender = me; number = c.args.number; digest = c.digest-digest.result.now }) c.me.ensures.value))
    (rw (← c.self.view_is) at c.requires.taken) (rw (← c.self.view_is) at c.stable_if_due.ensures.differ) c.in-Ok.ensures.now
    (rw (← c.self.view_is) at c.in_ok-stable.ensures.made) low

pub returns-in-Ok-clause-now : goal.returns-in-Ok-clause-now
returns-in-Ok-clause-now c =
    let node : Node = record { keys = c.self.inside.keys; order = c.self.inside.order; files = c.self.inside.files; table = c.self.inside.table; pending = c.self.inside.pending; changes = c.self.inside.changes; snapshots = c.self.inside.snapshots; new_view = c.self.inside.new_view } in
    let signed = c.in_ok-signed.signed in
    rw (← c.self.view_is)
    (c.settle_at.ensures
    ∙ told_now node c.args.number c.digest-digest.result.now c.args.snapshot signed c.on_checkpoint.new.self c.push.new.self c.in_ok-stable.stable
    (rw (← c.self.view_is) at c.requires.last) c.digest-digest.ensures c.in_ok-push.ensures.ok
    (c.in_ok-signed.ensures ∙ ap (λ (own : model.Checkpoint). order_signed_by node.keys (Checkpoint own)) (c.new-own.ensures ∙ ap (λ (me : ℕ). record { sender = me; number = c.args.number; digest = c.digest-digest.result.now }) c.me.ensures.value))
    (rw (← c.self.view_is) at c.requires.taken) c.in-Ok.ensures.now (rw (← c.self.view_is) at c.in_ok-stable.ensures.made))
