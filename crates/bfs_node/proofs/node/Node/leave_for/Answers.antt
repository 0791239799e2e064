use Rattle.std.proofs.Common.{◌≡◌, ◌∙◌, ◌++◌, ◌∷◌, ap}
use Rattle.bfs_messages.specs.Messages as model
use Rattle.bfs_messages.specs.declared.signed.Signed.{Signed}
use Rattle.bfs_messages.specs.declared.message.Message.TheVariants.{ViewChange}
use Rattle.bfs_messages.specs.Signing.{as_message}
use Rattle.bfs_view_change.specs.Changes.Keeping.{Kept, with_own}
use Rattle.bfs_view_change.specs.Changes.Making.{change_of, signed_change}
use Rattle.bfs_node.specs.Changing.{own_change, with_view_change}
use Rattle.bfs_node.specs.Inside.Asking.{asking}
use Rattle.bfs_node.specs.Nodes.{Messages, Node}
use Rattle.bfs_node.proofs.node.Node.leave_for.Goals as goal

abbrev keeping : Node → Signed model.ViewChange → Node
keeping node own = record node { changes = with_own node.changes own }

-- the VIEW-CHANGE that was made is its own
made_own : (c : goal.After-keep_own) → c.in_ok-own.own ≡ own_change c.args.self.now c.args.view
made_own c = c.in_ok-own.ensures.value ∙ ap (λ (n : Node). signed_change n.keys (change_of n.order c.args.view)) c.self.view_is

pub returns-clause-now : goal.returns-clause-now
returns-clause-now c =
    ap (λ (kept : Kept). record { keys = c.self-2.inside.keys; order = c.self-2.inside.order; files = c.self-2.inside.files; table = c.self-2.inside.table; pending = c.self-2.inside.pending; changes = kept; snapshots = c.self-2.inside.snapshots; new_view = c.self-2.inside.new_view }) c.keep_own.ensures
    ∙ ap (λ (n : Node). keeping n c.in_ok-kept.kept) (c.self-2.view_is ∙ c.in_ok-sent.ensures.now)
    ∙ ap (λ (kept : Signed model.ViewChange). keeping (with_view_change (asking c.args.self.now c.args.view) c.in_ok-own.own).now kept) c.in_ok-kept.ensures
    ∙ ap (λ (own : Signed model.ViewChange). keeping (with_view_change (asking c.args.self.now c.args.view) own).now own) (made_own c)

pub returns-clause-sent : goal.returns-clause-sent
returns-clause-sent c =
    c.in_ok-sent.ensures.sent ∙ ap (λ (first : Messages). first ++ (with_view_change (asking c.args.self.now c.args.view) c.in_ok-own.own).sent) c.in_ok-first.ensures
    ∙ ap (λ (own : Signed model.ViewChange). as_message ViewChange own ∷ (with_view_change (asking c.args.self.now c.args.view) own).sent) (made_own c)
