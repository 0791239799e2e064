-- No view begins behind a number that is not stable at a node that has entered it.
use Rattle.std.proofs.Common.{◌≡◌, ℕ, ◌<◌, ◌≤◌, Bool, true, false, cond, List, [], ◌∷◌, ◌++◌, ◌⊎◌, Some, inl, inr, refl, sym, ap, subst, ◌∙◌, arith}
use Rattle.bfs_messages.specs.Messages as model
use Rattle.bfs_messages.specs.declared.signed.Signed.{Signed}
use Rattle.bfs_messages.specs.declared.message.Message.{Message}
use Rattle.bfs_order.specs.Replica.States.{State, fresh}
use Rattle.bfs_order.specs.Replica.Views.{as_proposals, greatest_number, left, number_of}
use Rattle.bfs_agreement.specs.Histories.{FewAreFaulty, World}
use Rattle.bfs_agreement.specs.Moves.{new_world}
use Rattle.bfs_node.specs.Changing.{begun, begun_if_due, entered_by, leads, left_for, may_begin, own_change, own_new_view, with_view_change}
use Rattle.bfs_node.specs.Nodes.{Node, Outcome}
use Rattle.bfs_nodes_agree.specs.Nodes.Laws.{HasEnteredWhole, ViewsAreEnteredWhole}
use Rattle.bfs_nodes_agree.specs.Nodes.Premises.{AreAuthentic, AreShared, Comes, IsAny, IsAuthentic}
use Rattle.bfs_nodes_agree.specs.Nodes.Replicas.{Beginning, Keyring, NodeReplica, NodeReplicas, NodeTurn, after_node_turn, after_node_turns, new_node_replicas}
use Rattle.bfs_nodes_agree.specs.Views.Laws.{EntersWhole}
use Rattle.bfs_nodes_agree.specs.Nodes.Steps.{NodeStep, Adopts, Delivers, Settles, Takes, outcome, still}
use Rattle.bfs_nodes_agree.specs.Orders.Replicas.{OrderReplicas, new_order_replicas}
use Rattle.bfs_nodes_agree.proofs.Public.{Left, Rested, TookChange, TookNewView, both_at, entered_same, here_after, some_is, step_kind}
use Rattle.bfs_nodes_progress.specs.Inside.Below.{Below}
use Rattle.bfs_nodes_progress.specs.Runs.{order_of, reached}
use Rattle.bfs_nodes_progress.proofs.Public.{Facts, after_join, low_there, min_s_there, start_facts, step_on, view_there}
use Rattle.bfs_view_change.specs.Changes.Keeping.{with_asked, with_change}
use Rattle.bfs_view_change.specs.Changes.Making.{signed_new_view}
use Rattle.bfs_view_change.specs.Changes.NewViews.{latest_checkpoint}
use Rattle.bfs_view_change.specs.Changes.ViewChanges.{messages_of}
use Rattle.bfs_liveness.specs.LawsOfCatching.{ViewsBeginBehind}

-- A step --------------------------------------------------------------------------------------------------------------

-- it stays in its view, or its view begins behind what the NEW-VIEW that it keeps tells, which hands over its numbers
abbrev Begins : (node now : Node) → Type 0
Begins node now = (now.order.view ≡ node.order.view)
    ⊎ ((s : Signed model.NewView) × (now.new_view ≡ Some s) × (now.order.min_s ≡ number_of (latest_checkpoint (messages_of s.message.changes))) × (now.order.handed ≡ greatest_number (as_proposals s.message.proposals)))

entered_begins : (node : Node) (s : Signed model.NewView) → Begins node (entered_by node s).now
entered_begins node s =
    let stable = latest_checkpoint (messages_of s.message.changes) in
    inr (
      s,
      refl,
      entered_same (λ (u : State). u.min_s) (λ u low log. refl) node.keys node.order s.message.view stable s.message.proposals,
      entered_same (λ (u : State). u.handed) (λ u low log. refl) node.keys node.order s.message.view stable s.message.proposals,
    )

due_begins : (node : Node) → Begins node (begun_if_due node).now
due_begins node = elim (may_begin node) as (λ b. Begins node (cond b (begun node) (still node)).now) [
  | true ↦ entered_begins node (signed_new_view node.keys (own_new_view node))
  | false ↦ inl refl
]

change_begins : (node : Node) (s : Signed model.ViewChange) → Begins node (with_view_change node s).now
change_begins node s =
    let kept = record node { changes = with_change node.changes s } in
    elim (leads node s.message.view) as (λ b. Begins node (cond b (begun_if_due kept) (still (record node { changes = with_asked node.changes s.message }))).now) [
      | true ↦ due_begins kept
      | false ↦ inl refl
    ]

left_begins : (node : Node) (view : ℕ) → Begins node (left_for node view).now
left_begins node view = change_begins (record node { order = (left node.order view).now }) (own_change node view)

step_begins : (node : Node) (step : NodeStep) → Begins node (outcome node step).now
step_begins node step = elim (step_kind node step) as (λ _. Begins node (outcome node step).now) [
  | Rested rests ↦ inl rests.view
  | TookChange t ↦ subst (λ (out : Outcome). Begins node out.now) (sym t.is) (change_begins node t.change)
  | TookNewView t ↦ subst (λ (out : Outcome). Begins node out.now) (sym t.is) (entered_begins node t.new)
  | Left l ↦ subst (λ (out : Outcome). Begins node out.now) (sym l.is) (left_begins node l.view)
]

-- Runs ----------------------------------------------------------------------------------------------------------------

comes_any : (P : Signed Message → Type 0) (step : NodeStep) → Comes P step → Comes IsAny step
comes_any P (Delivers bytes) comes = (comes.0, λ m is p of. tt)
comes_any P (Takes signed) comes = (comes.0, λ p of. tt)
comes_any P (Adopts certificate files table) comes = λ m i. tt
comes_any P (Settles certificate) comes = λ m i. tt
comes_any P step comes = tt

-- so it has entered it, with all that this hands over
pub record HasBegun (now : State) : Type 0 where
  pub new : model.NewView
  pub min_s : now.min_s ≡ number_of (latest_checkpoint (messages_of new.changes))
  pub handed : now.handed ≡ greatest_number (as_proposals new.proposals)
  pub whole : EntersWhole (number_of (latest_checkpoint (messages_of new.changes))) new.proposals now

module _ (laws : Below) (whole : ViewsAreEnteredWhole) (f : ℕ) (keys : Keyring) (start : Beginning) (faulty : ℕ → Bool) (positive : 0 < f) (few : FewAreFaulty f faulty) (shared : AreShared f keys) where
  begun_so : (done : List NodeTurn) (w : NodeReplicas) → reached f keys start done ≡ w → (turn : NodeTurn) → Comes (IsAuthentic faulty w (w turn.who).node.keys) turn.step
      → let node = (w turn.who).node in
      let now = (outcome node turn.step).now.order in
      (now.view ≡ node.order.view) ⊎ HasBegun now
  begun_so done w at turn comes =
      let who = turn.who in
      let node = (w who).node in
      let now = (outcome node turn.step).now in
      let entered : (now.order.view ≡ node.order.view) ⊎ HasEnteredWhole now =
      subst (λ (x : NodeReplicas). ((outcome (x who).node turn.step).now.order.view ≡ (x who).node.order.view) ⊎ HasEnteredWhole (outcome (x who).node turn.step).now) at
      (whole f keys start done who turn.step shared (comes_any (IsAuthentic faulty w node.keys) turn.step comes)) in
      elim entered [
        | inl same ↦ inl same
        | inr has ↦ elim (step_begins node turn.step) [
          | inl same ↦ inl same
          | inr begins ↦
              let one : begins.0 ≡ has.new = some_is begins.0 has.new (sym begins.1 ∙ has.kept) in
              inr (record {
                new = has.new.message;
                min_s = subst (λ (s : Signed model.NewView). now.order.min_s ≡ number_of (latest_checkpoint (messages_of s.message.changes))) one begins.2;
                handed = subst (λ (s : Signed model.NewView). now.order.handed ≡ greatest_number (as_proposals s.message.proposals)) one begins.3;
                whole = has.whole;
              })
        ]
      ]

  -- what a step keeps in a view, and leaves where it has begun one
  abbrev pub StepsKeep : (State → Type 0) → Type 0
  StepsKeep P = (w : NodeReplicas) (v : OrderReplicas) (t : World) → Facts f faulty w v t → (turn : NodeTurn) → Comes (IsAuthentic faulty w (w turn.who).node.keys) turn.step → P (order_of w turn.who)
      → let now = (outcome (w turn.who).node turn.step).now.order in
      (now.view ≡ (order_of w turn.who).view → P now) × (HasBegun now → P now)

  orders_on : (P : State → Type 0) → StepsKeep P → (done : List NodeTurn) (w : NodeReplicas) (v : OrderReplicas) (t : World) → reached f keys start done ≡ w → Facts f faulty w v t
      → (turns : List NodeTurn) → AreAuthentic faulty w turns → ((k : ℕ) → P (order_of w k)) → (k : ℕ) → P (order_of (after_node_turns w turns) k)
  orders_on P keep done w v t at facts [] authentic all = all
  orders_on P keep done w v t at facts (turn ∷ turns) authentic all =
      let first = step_on laws f faulty positive few w v t facts turn authentic.0 in
      let joined = after_join (new_node_replicas f keys start) done (turn ∷ []) ∙ ap (λ (x : NodeReplicas). after_node_turn x turn) at in
      let both = keep w v t facts turn authentic.0 (all turn.who) in
      let next = both_at w turn (λ _ r. P r.node.order) (elim (begun_so done w at turn authentic.0) [ inl same ↦ both.0 same | inr begun ↦ both.1 begun ]) all in
      orders_on P keep (done ++ turn ∷ []) (after_node_turn w turn) first.orders first.world joined first.facts turns authentic.1 next

  -- holds of all orders of a run
  pub all_orders : (P : State → Type 0) → StepsKeep P → ((k : ℕ) → P (fresh f k)) → (turns : List NodeTurn) → AreAuthentic faulty (new_node_replicas f keys start) turns
      → (k : ℕ) → P (order_of (reached f keys start turns) k)
  all_orders P keep begin turns authentic k =
      orders_on P keep [] (new_node_replicas f keys start) (new_order_replicas f) new_world refl (start_facts laws f faulty positive few keys start shared) turns authentic begin k

  -- so much is stable that its view begins behind
  behind_on : StepsKeep (λ s. s.min_s ≤ s.low)
  behind_on w v t facts turn comes le =
      let who = turn.who in
      let node = (w who).node in
      let now = (outcome node turn.step).now in
      let there = after_node_turn w turn in
      let first = step_on laws f faulty positive few w v t facts turn comes in
      let here : order_of there who ≡ now.order = ap (λ (r : NodeReplica). r.node.order) (here_after w turn) in (
        λ same.
            let later = first.later who in
            let is : (order_of there who).view ≡ node.order.view = ap (λ (s : State). s.view) here ∙ same in
            let min_s = later.min_s (view_there f faulty w v t facts who ∙ sym is ∙ sym (view_there f faulty there first.orders first.world first.facts who)) in
            let low = later.low in
            let min_s_before = min_s_there f faulty w v t facts who in
            let min_s_after = min_s_there f faulty there first.orders first.world first.facts who in
            let low_before = low_there f faulty w v t facts who in
            let low_after = low_there f faulty there first.orders first.world first.facts who in
            let min_s_here = ap (λ (s : State). s.min_s) here in
            let low_here = ap (λ (s : State). s.low) here in
            omega (arith, min_s, low, min_s_before, min_s_after, low_before, low_after, min_s_here, low_here, le),
        λ begun.
            let behind = begun.whole.behind in
            let is = begun.min_s in
            omega (arith, behind, is),
      )

pub views_begin_behind : Below → ViewsAreEnteredWhole → ViewsBeginBehind
views_begin_behind laws whole f keys start faulty turns k run =
    all_orders laws whole f keys start faulty run.others run.few run.shared (λ s. s.min_s ≤ s.low) (behind_on laws whole f keys start faulty run.others run.few run.shared) (λ i. omega arith) turns run.authentic k
