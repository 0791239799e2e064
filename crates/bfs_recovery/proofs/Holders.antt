-- Whatever a replica does, it keeps its keys, its number, and how many faults it tolerates.
use Rattle.std.proofs.Common.{◌≡◌, ◌∙◌, Bool, true, false, cond, ℕ, List, [], ◌∷◌, refl, sym, ap, subst}
use Rattle.bfs_auth.specs.Keys.{Keys}
use Rattle.bfs_messages.specs.Messages as model
use Rattle.bfs_messages.specs.declared.signed.Signed.{Signed}
use Rattle.bfs_node.specs.Changing.{begun, begun_if_due, entered_by, leads, left_for, may_begin, own_change, own_new_view, with_view_change}
use Rattle.bfs_node.specs.Nodes.{Node}
use Rattle.bfs_node.specs.Saving.{IsOf}
use Rattle.bfs_nodes_agree.proofs.Public.{Left, Rested, TookChange, TookNewView, entered_same, step_kind}
use Rattle.bfs_nodes_agree.specs.Nodes.Steps.{NodeStep, outcome, still}
use Rattle.bfs_order.specs.Replica.States.{State}
use Rattle.bfs_order.specs.Replica.Views as order
use Rattle.bfs_steps.specs.Replaying.{after_step, after_steps}
use Rattle.bfs_view_change.specs.Changes.Keeping.{changes_for, with_asked, with_change}
use Rattle.bfs_view_change.specs.Changes.Making.{signed_new_view}
use Rattle.bfs_view_change.specs.Changes.NewViews.{latest_checkpoint}
use Rattle.bfs_view_change.specs.Changes.ViewChanges.{messages_of}
use Rattle.bfs_recovery.specs.Holding.{after_turns}

record IsSame (node now : Node) : Type 0 where
  keys : now.keys ≡ node.keys
  f : now.order.f ≡ node.order.f
  me : now.order.me ≡ node.order.me

itself : (node : Node) → IsSame node node
itself node = record { keys = refl; f = refl; me = refl }

entered_stays : (node : Node) (s : Signed model.NewView) → IsSame node (entered_by node s).now
entered_stays node s =
    let stable = latest_checkpoint (messages_of s.message.changes) in
    record {
      keys = refl;
      f = entered_same (λ (u : State). u.f) (λ u low log. refl) node.keys node.order s.message.view stable s.message.proposals;
      me = entered_same (λ (u : State). u.me) (λ u low log. refl) node.keys node.order s.message.view stable s.message.proposals;
    }

begins_stays : (node : Node) → IsSame node (begun_if_due node).now
begins_stays node = elim (may_begin node) as (λ b. IsSame node (cond b (begun node) (still node)).now) [
  | true ↦ entered_stays node (signed_new_view node.keys (own_new_view node))
  | false ↦ itself node
]

change_stays : (node : Node) (s : Signed model.ViewChange) → IsSame node (with_view_change node s).now
change_stays node s =
    let there = record node { changes = with_change node.changes s } in
    let noted = record node { changes = with_asked node.changes s.message } in
    elim (leads node s.message.view) as (λ b. IsSame node (cond b (begun_if_due there) (still noted)).now) [
      | true ↦ let same = begins_stays there in record { keys = same.keys; f = same.f; me = same.me }
      | false ↦ record { keys = refl; f = refl; me = refl }
    ]

left_stays : (node : Node) (view : ℕ) → IsSame node (left_for node view).now
left_stays node view =
    let same = change_stays (record node { order = (order.left node.order view).now }) (own_change node view) in
    record { keys = same.keys; f = same.f; me = same.me }

step_stays : (node : Node) (step : NodeStep) → IsSame node (outcome node step).now
step_stays node step = elim (step_kind node step) [
  | Rested rests ↦ record { keys = rests.keys; f = rests.f; me = rests.me }
  | TookChange c ↦ subst (λ o. IsSame node o.now) (sym c.is) (change_stays node c.change)
  | TookNewView c ↦ subst (λ o. IsSame node o.now) (sym c.is) (entered_stays node c.new)
  | Left l ↦ subst (λ o. IsSame node o.now) (sym l.is) (left_stays node l.view)
]

pub of_step : (keys : Keys) (node : Node) (step : NodeStep) → IsOf keys node → IsOf keys (outcome node step).now
of_step keys node step of =
    let same = step_stays node step in
    record { keys_are = same.keys ∙ of.keys_are; faults_are = same.f ∙ of.faults_are; number_is = same.me ∙ of.number_is }

pub of_steps : (keys : Keys) (node : Node) (steps : List NodeStep) → IsOf keys node → IsOf keys (after_steps node steps)
of_steps keys node [] of = of
of_steps keys node (step ∷ steps) of = of_steps keys (after_step node step) steps (of_step keys node step of)

pub of_turns : (keys : Keys) (node : Node) (turns : List (List NodeStep)) → IsOf keys node → IsOf keys (after_turns node turns)
of_turns keys node [] of = of
of_turns keys node (steps ∷ turns) of = of_turns keys (after_steps node steps) turns (of_steps keys node steps of)
