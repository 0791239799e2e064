use Rattle.std.proofs.Common.{◌≡◌, ◌∙◌, ◌++◌, ◌∷◌, ℕ, List, [], sym, ap, append_assoc}
use Rattle.bfs_messages.specs.Messages as model
use Rattle.bfs_messages.specs.Signing.{as_message}
use Rattle.bfs_messages.specs.declared.signed.Signed.{Signed}
use Rattle.bfs_messages.specs.declared.message.Message.TheVariants.{NewView}
use Rattle.bfs_view_change.specs.Changes.Choice.{choice}
use Rattle.bfs_view_change.specs.Changes.Making.{new_view_from, signed_new_view}
use Rattle.bfs_view_change.specs.Changes.ViewChanges.{messages_of}
use Rattle.bfs_node.specs.Changing.{entered_by, own_new_view}
use Rattle.bfs_node.specs.Inside.Asking.{asking}
use Rattle.bfs_node.specs.Nodes.{Messages, Node, Outcome}
use Rattle.bfs_node.proofs.Entering.{entered_own}
use Rattle.bfs_node.proofs.node.Node.begin.Goals as goal

-- the NEW-VIEW that was made is its own
own_is : (c : goal.In_ok-sent) → c.in_ok-begun.begun.new_view ≡ signed_new_view c.args.self.now.keys (own_new_view (asking c.args.self.now c.args.view))
own_is c =
    let keys = c.self.inside.keys in
    c.in_ok-begun.ensures.new
    ∙ ap (λ (me : ℕ). signed_new_view keys (new_view_from keys me c.args.view c.in_ok-changes.changes.items (choice (messages_of c.in_ok-changes.changes.items)))) c.me.ensures.value
    ∙ ap (λ (l : List (Signed model.ViewChange)). signed_new_view keys (new_view_from keys c.self.inside.order.me c.args.view l (choice (messages_of l)))) c.in_ok-changes.ensures.value
    ∙ ap (λ (n : Node). signed_new_view n.keys (own_new_view (asking n c.args.view))) c.self.view_is

pub returns-clause-now : goal.returns-clause-now
returns-clause-now c =
    let new = c.in_ok-begun.begun.new_view in
    c.in_ok-sent.ensures.now ∙ ap (λ (o : Outcome). o.now) (entered_own c.args.self.now c.args.view new (own_is c))

pub returns-clause-sent : goal.returns-clause-sent
returns-clause-sent c =
    let node = c.args.self.now in
    let new = c.in_ok-begun.begun.new_view in
    let first = c.args.first.items in
    c.in_ok-sent.ensures.sent
    ∙ ap (λ (l : Messages). l ++ (entered_by node new).sent) c.in_ok-push.ensures.items
    ∙ append_assoc first (as_message NewView c.in_ok-own.own ∷ []) (entered_by node new).sent
    ∙ ap (λ (s : Signed model.NewView). first ++ as_message NewView s ∷ (entered_by node new).sent) c.in_ok-own.ensures
    ∙ ap (λ (s : Signed model.NewView). first ++ as_message NewView s ∷ (entered_by node new).sent) (own_is c)
    ∙ ap (λ (o : Outcome). first ++ as_message NewView (signed_new_view node.keys (own_new_view (asking node c.args.view))) ∷ o.sent) (entered_own node c.args.view new (own_is c))
