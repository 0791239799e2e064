use Rattle.std.proofs.Common.{◌≡◌, ◌∙◌, List, None, length, sym, ap, ap₂}
use Rattle.std.specs.Prelude.{nat_le}
use Rattle.bfs_auth.specs.declared.principals.Principal.{Principal}
use Rattle.bfs_model.specs.Server.Limits.{most_requests}
use Rattle.bfs_messages.specs.Messages.{Request}
use Rattle.bfs_messages.specs.declared.signed.Signed.{Signed}
use Rattle.bfs_pending.specs.Passed.{waits}
use Rattle.bfs_node.specs.Nodes.{Node}
use Rattle.bfs_node.specs.Offering.{has_its_share, room_refusal}
use Rattle.bfs_node.specs.declared.error.NodeError.TheVariants as error
use Rattle.bfs_node.proofs.Entering.{if_err}
use Rattle.bfs_node.proofs.Waiting.{has_room}
use Rattle.bfs_node.proofs.node.Node.let_wait.Goals as goal

pub returns-in_err-push-clause-memory : goal.returns-in_err-push-clause-memory
returns-in_err-push-clause-memory c =
    let node = c.args.self.now in
    let pending = ap (λ (n : Node). n.pending) c.self.view_is in
    let me = ap (λ (n : Node). n.keys.me) c.self.view_is in
    if_err c.from_residual.result (λ e. e ≡ error.Memory) (room_refusal node c.args.request ≡ None)
    (has_room node c.args.request
    (ap₂ (λ (receiver : Principal) (waiting : List (Signed Request)). waits receiver waiting c.args.request) (sym (c.me.ensures ∙ me)) (sym pending) ∙ sym c.waits.ensures ∙ c.if-waits.false)
    (ap (λ (waiting : List (Signed Request)). nat_le most_requests (length waiting)) (sym pending) ∙ sym c.is_full.ensures ∙ c.if-is_full.false)
    (ap (has_its_share node) (sym c.client.ensures) ∙ sym c.has_its_share.ensures ∙ c.if-has_its_share.false))
