-- A node keeps its keys, and how many may be faulty: what all can sign they can sign later.
use Rattle.std.proofs.Common.{◌≡◌, ℕ, ◌-◌, ◌<◌, ◌≤◌, ◌^◌, Bool, true, false, cond, List, [], ◌∷◌, Option, Some, None, refl, sym, subst, ◌∙◌, arith}
use Rattle.std.specs.Prelude.{min}
use Rattle.lms.specs.Signers.{HssKey, count_below}
use Rattle.bfs_auth.specs.Keys.{Keys}
use Rattle.bfs_auth.specs.Places.{view_count}
use Rattle.bfs_messages.specs.Messages as model
use Rattle.bfs_messages.specs.declared.signed.Signed.{Signed}
use Rattle.bfs_order.specs.Replica.States.{State}
use Rattle.bfs_order.specs.Replica.Views.{left}
use Rattle.bfs_view_change.specs.Changes.Keeping.{with_asked, with_change}
use Rattle.bfs_view_change.specs.Changes.Making.{signed_new_view}
use Rattle.bfs_view_change.specs.Changes.NewViews.{latest_checkpoint}
use Rattle.bfs_view_change.specs.Changes.ViewChanges.{messages_of}
use Rattle.bfs_node.specs.Changing.{begun, begun_if_due, entered_by, leads, left_for, may_begin, own_change, own_new_view, with_view_change}
use Rattle.bfs_node.specs.Nodes.{Node, Outcome}
use Rattle.bfs_nodes_agree.specs.Nodes.Replicas.{Beginning, Keyring, NodeReplicas, NodeTurn, after_node_turn, after_node_turns, new_node_replicas}
use Rattle.bfs_nodes_agree.specs.Nodes.Steps.{NodeStep, outcome, still}
use Rattle.bfs_nodes_agree.proofs.Public.{Left, Rested, TookChange, TookNewView, both_at, entered_same, step_kind}
use Rattle.bfs_nodes_progress.specs.Runs.{order_of, reached}
use Rattle.bfs_liveness.specs.Ways.{AllSignOf, numbers_of, views_of}

pub record IsSame (node now : Node) : Type 0 where
  pub keys : now.keys ≡ node.keys
  pub f : now.order.f ≡ node.order.f

itself : (node : Node) → IsSame node node
itself node = record { keys = refl; f = refl }

enters : (node : Node) (s : Signed model.NewView) → IsSame node (entered_by node s).now
enters node s = record {
  keys = refl;
  f = entered_same (λ (u : State). u.f) (λ u low log. refl) node.keys node.order s.message.view (latest_checkpoint (messages_of s.message.changes)) s.message.proposals;
}

begins : (node : Node) → IsSame node (begun_if_due node).now
begins node = elim (may_begin node) as (λ b. IsSame node (cond b (begun node) (still node)).now) [
  | true ↦ enters node (signed_new_view node.keys (own_new_view node))
  | false ↦ itself node
]

takes_change : (node : Node) (s : Signed model.ViewChange) → IsSame node (with_view_change node s).now
takes_change node s =
    let there = record node { changes = with_change node.changes s } in
    let noted = record node { changes = with_asked node.changes s.message } in
    elim (leads node s.message.view) as (λ b. IsSame node (cond b (begun_if_due there) (still noted)).now) [
      | true ↦ let is = begins there in record { keys = is.keys; f = is.f }
      | false ↦ record { keys = refl; f = refl }
    ]

leaves : (node : Node) (view : ℕ) → IsSame node (left_for node view).now
leaves node view = let is = takes_change (record node { order = (left node.order view).now }) (own_change node view) in record { keys = is.keys; f = is.f }

pub by_step : (node : Node) (step : NodeStep) → IsSame node (outcome node step).now
by_step node step = elim (step_kind node step) [
  | Rested rests ↦ record { keys = rests.keys; f = rests.f }
  | TookChange c ↦ subst (λ (out : Outcome). IsSame node out.now) (sym c.is) (takes_change node c.change)
  | TookNewView c ↦ subst (λ (out : Outcome). IsSame node out.now) (sym c.is) (enters node c.new)
  | Left l ↦ subst (λ (out : Outcome). IsSame node out.now) (sym l.is) (leaves node l.view)
]

by_turns : (turns : List NodeTurn) (w : NodeReplicas) (k : ℕ) → IsSame (w k).node (after_node_turns w turns k).node
by_turns [] w k = itself (w k).node
by_turns (turn ∷ turns) w k =
    let first = both_at w turn (λ j r. IsSame (w j).node r.node) (by_step (w turn.who).node turn.step) (λ j. itself (w j).node) k in
    let rest = by_turns turns (after_node_turn w turn) k in
    record { keys = rest.keys ∙ first.keys; f = rest.f ∙ first.f }

module _ (f : ℕ) (keys : Keyring) (start : Beginning) (turns : List NodeTurn) (k : ℕ) where
  pub same_keys : (reached f keys start turns k).node.keys ≡ keys k
  same_keys = (by_turns turns (new_node_replicas f keys start) k).keys

  pub same_f : (order_of (reached f keys start turns) k).f ≡ f
  same_f = (by_turns turns (new_node_replicas f keys start) k).f

-- What all can sign ---------------------------------------------------------------------------------------------------

min_least : (a b : ℕ) → min a b ≤ a
min_least a b = omega arith

pub most_views : (signer : Option HssKey) → views_of signer ≤ 2 ^ 63
most_views None = omega arith
most_views (Some key) = min_least (2 ^ 63) (view_count key)

pub most_numbers : (signer : Option HssKey) → numbers_of signer ≤ 2 ^ 63
most_numbers None = omega arith
most_numbers (Some key) = min_least (2 ^ 63) (count_below key.below - 2)

pub signs_there : (f : ℕ) (keys : Keyring) (start : Beginning) (members : ℕ → Bool) (turns other : List NodeTurn) (number : ℕ)
    → AllSignOf members (reached f keys start turns) number → AllSignOf members (reached f keys start other) number
signs_there f keys start members turns other number all k member =
    subst (λ (x : Keys). number < numbers_of x.signer) (same_keys f keys start turns k ∙ sym (same_keys f keys start other k)) (all k member)
