-- The NEW-VIEW by which a node has entered its view: it has sent it, or it came to it, and all of it was said by its senders.
use Rattle.std.proofs.Common.{◌≡◌, ℕ, ◌==◌, Bool, true, false, cond, List, [], ◌∷◌, ◌⊎◌, Some, None, map, inl, inr, refl, sym, ap, subst, ◌∙◌}
use Rattle.std.proofs.lemmas.Bool.{cond_both, eqb-true}
use Rattle.bfs_codec.specs.Laws.{MessageWasWritten, OneBatch}
use Rattle.bfs_messages.specs.Fits.{FitsMessage}
use Rattle.bfs_messages.specs.Messages as model
use Rattle.bfs_messages.specs.Signing.{as_message}
use Rattle.bfs_messages.specs.declared.signed.Signed.{Signed}
use Rattle.bfs_messages.specs.declared.message.Message.{Message}
use Rattle.bfs_messages.specs.declared.message.Message.TheVariants.{NewView}
use Rattle.bfs_order.specs.Laws.Calls.{CallsKeepTheReplica, IsKept}
use Rattle.bfs_order.specs.Laws.Logs.{HasNoLaterView}
use Rattle.bfs_order.specs.Replica.Views.{left}
use Rattle.bfs_agreement.specs.Histories.{IsIn}
use Rattle.bfs_nodes_agree.specs.Orders.Replicas as ordered
use Rattle.bfs_nodes_agree.proofs.Orders.Lists.{some_is}
use Rattle.bfs_nodes_agree.specs.Views.Replicas as turns
use Rattle.bfs_view_change.specs.Changes.Keeping.{with_asked, with_change}
use Rattle.bfs_view_change.specs.Changes.Making.{signed_new_view}
use Rattle.bfs_node.specs.Changing.{begun, begun_if_due, leads, left_for, may_begin, own_change, own_new_view, view_refusal, with_view_change}
use Rattle.bfs_node.specs.Nodes.{Node, Outcome}
use Rattle.bfs_nodes_agree.specs.Nodes.Premises.{AreAuthentic, Comes, IsAuthentic, IsWholly}
use Rattle.bfs_nodes_agree.specs.Nodes.Replicas.{NodeReplica, NodeReplicas, NodeTurn, after_node_step, after_node_turn, after_node_turns, turn_of}
use Rattle.bfs_nodes_agree.specs.Nodes.Resending.{Brings, HasComeTo}
use Rattle.bfs_nodes_agree.specs.Nodes.Steps.{NodeStep, Delivers, Takes, deeds_of, outcome, still}
use Rattle.bfs_nodes_agree.proofs.Nodes.Hearing.{IsWhollySaid, said_later}
use Rattle.bfs_nodes_agree.proofs.Nodes.Kinds.{Left, Rested, TookChange, TookNewView, step_kind}
use Rattle.bfs_nodes_agree.proofs.Nodes.NewViews.{taken_wholly_said}
use Rattle.bfs_nodes_agree.proofs.Nodes.Right.{fits_read}
use Rattle.bfs_nodes_agree.proofs.Nodes.States.{both_at}
use Rattle.bfs_nodes_agree.proofs.Nodes.Turns.{AreRight, right_on, sent_here, sent_on}

abbrev New : Type 0
New = Signed model.NewView

-- A step --------------------------------------------------------------------------------------------------------------------------

-- the NEW-VIEW that it keeps then it kept before, or it sends it now
abbrev KeepsOrSends : Node → Outcome → Type 0
KeepsOrSends node out = (s : New) → out.now.new_view ≡ Some s → (node.new_view ≡ Some s) ⊎ IsIn (as_message NewView s) out.sent

begins : (node : Node) → KeepsOrSends node (begun_if_due node)
begins node = elim (may_begin node) as (λ b. KeepsOrSends node (cond b (begun node) (still node))) [
  | true ↦ λ s e. inr (inl (ap (as_message NewView) (sym (some_is (signed_new_view node.keys (own_new_view node)) s e))))
  | false ↦ λ s e. inl e
]

change_comes : (node : Node) (s : Signed model.ViewChange) → KeepsOrSends node (with_view_change node s)
change_comes node s =
    let there = record node { changes = with_change node.changes s } in
    let noted = record node { changes = with_asked node.changes s.message } in
    elim (leads node s.message.view) as (λ b. KeepsOrSends node (cond b (begun_if_due there) (still noted))) [ true ↦ begins there | false ↦ λ s e. inl e ]

leaves : (node : Node) (view : ℕ) → KeepsOrSends node (left_for node view)
leaves node view s e = elim (change_comes (record node { order = (left node.order view).now }) (own_change node view) s e) [ inl before ↦ inl before | inr now ↦ inr (inr now) ]

-- or it comes by the step, and is taken
abbrev Keeps : Node → (comes : New → Type 0) → Outcome → Type 0
Keeps node comes out = (s : New) → out.now.new_view ≡ Some s → (node.new_view ≡ Some s) ⊎ (IsIn (as_message NewView s) out.sent ⊎ (comes s × (view_refusal node s ≡ None)))

so_keeps : (node : Node) (comes : New → Type 0) (out : Outcome) → KeepsOrSends node out → Keeps node comes out
so_keeps node comes out so s e = elim (so s e) [ inl before ↦ inl before | inr now ↦ inr (inl now) ]

pub step_keeps : (node : Node) (step : NodeStep) → Keeps node (λ s. Brings step (as_message NewView s)) (outcome node step)
step_keeps node step = elim (step_kind node step) [
  | Rested rests ↦ λ s e. inl (sym rests.new_view ∙ e)
  | TookChange c ↦ subst (Keeps node comes) (sym c.is) (so_keeps node comes (with_view_change node c.change) (change_comes node c.change))
  | TookNewView c ↦ subst (Keeps node comes) (sym c.is)
      (λ s e. inr (inr (subst (λ (x : New). Brings step (as_message NewView x) × (view_refusal node x ≡ None)) (some_is c.new s e) (c.came, c.taken))))
  | Left l ↦ subst (Keeps node comes) (sym l.is) (so_keeps node comes (left_for node l.view) (leaves node l.view))
]
  where
    comes : New → Type 0
    comes s = Brings step (as_message NewView s)

-- Where it comes from -------------------------------------------------------------------------------------------------------------

sent_later : (steps : List NodeTurn) (w : NodeReplicas) (i : ℕ) (m : Signed Message) → IsIn m (w i).sent → IsIn m (after_node_turns w steps i).sent
sent_later [] w i m j = j
sent_later (turn ∷ steps) w i m j = sent_later steps (after_node_turn w turn) i m (sent_on w turn i m j)

-- it kept it at the beginning, has sent it, or it came to it
abbrev Origin : NodeReplicas → List NodeTurn → (i : ℕ) → New → Type 0
Origin w steps i s = ((w i).node.new_view ≡ Some s) ⊎ (IsIn (as_message NewView s) (after_node_turns w steps i).sent ⊎ HasComeTo i steps (as_message NewView s))

pub origin : (steps : List NodeTurn) (w : NodeReplicas) (i : ℕ) (s : New) → (after_node_turns w steps i).node.new_view ≡ Some s → Origin w steps i s
origin [] w i s e = inl e
origin (turn ∷ steps) w i s e = elim (origin steps (after_node_turn w turn) i s e) [
  | inl kept ↦ first kept
  | inr later ↦ elim later [ inl sent ↦ inr (inl sent) | inr came ↦ inr (inr (came.0, inr came.1, came.2, came.3)) ]
]
  where
    who : ℕ
    who = turn.who

    next : NodeReplica
    next = after_node_step (w who) turn.step

    m : Signed Message
    m = as_message NewView s

    here : i ≡ who → next.node.new_view ≡ Some s → Origin w (turn ∷ steps) i s
    here same kept = elim (step_keeps (w who).node turn.step s kept) [
      | inl before ↦ inl (subst (λ (k : ℕ). (w k).node.new_view ≡ Some s) (sym same) before)
      | inr later ↦ elim later [
        | inl now ↦ inr (inl (sent_later steps (after_node_turn w turn) i m (subst (λ (k : ℕ). IsIn m (after_node_turn w turn k).sent) (sym same) (sent_here w turn m now))))
        | inr came ↦ inr (inr (turn, inl refl, sym same, came.0))
      ]
    ]

    first : (after_node_turn w turn i).node.new_view ≡ Some s → Origin w (turn ∷ steps) i s
    first kept = cond_both (i == who) next (w i) (λ (r : NodeReplica). r.node.new_view ≡ Some s → Origin w (turn ∷ steps) i s)
        (λ same now. here (eqb-true i who same) now) (λ _ before. inl before) kept

-- All of it was said ----------------------------------------------------------------------------------------------------------------

abbrev pub IsEnteredRightly : (faulty : ℕ → Bool) → NodeReplicas → NodeReplica → Type 0
IsEnteredRightly faulty w r = (s : New) → r.node.new_view ≡ Some s → IsWhollySaid faulty w (as_message NewView s)

-- what comes by a step is authentic, and within the limits
pub comes_so : MessageWasWritten → (P : Signed Message → Type 0) (step : NodeStep) (m : Signed Message) → Comes P step → Brings step m → FitsMessage m.message × IsWholly P m
comes_so written P (Delivers bytes) m comes is = (fits_read written bytes m comes.0 is, comes.1 m is)
comes_so written P (Takes signed) m comes is = subst (λ (x : Signed Message). FitsMessage x.message × IsWholly P x) is comes
comes_so written P step m comes is = absurd is

module _ (same : CallsKeepTheReplica) (views : IsKept HasNoLaterView) (written : MessageWasWritten) (one : OneBatch) (f : ℕ) (faulty : ℕ → Bool) where
  rightly_here : (w : NodeReplicas) (v : ordered.OrderReplicas) → AreRight f faulty w v → (turn : NodeTurn) → Comes (IsAuthentic faulty w (w turn.who).node.keys) turn.step
      → IsEnteredRightly faulty w (w turn.who) → IsEnteredRightly faulty (after_node_turn w turn) (after_node_step (w turn.who) turn.step)
  rightly_here w v right turn comes before s e =
      let who = turn.who in
      let after = after_node_turn w turn in
      let later : IsWhollySaid faulty w (as_message NewView s) → IsWhollySaid faulty after (as_message NewView s) = λ said p of. said_later faulty w after (sent_on w turn) p.message (said p of) in
      elim (step_keeps (w who).node turn.step s e) [
        | inl kept ↦ later (before s kept)
        | inr new ↦ elim new [
          | inl now ↦ (right_on same views written one f faulty w v right turn comes who).said (as_message NewView s) (sent_here w turn (as_message NewView s) now)
          | inr came ↦
              let comes_in = comes_so written (IsAuthentic faulty w (w who).node.keys) turn.step (as_message NewView s) comes came.0 in
              later (taken_wholly_said (w who).node s (right who).fit comes_in.0 came.1 faulty w v (λ k. (right k).spoken) comes_in.1)
        ]
      ]

  pub rightly_entered : (steps : List NodeTurn) (w : NodeReplicas) (v : ordered.OrderReplicas) → AreRight f faulty w v → AreAuthentic faulty w steps → ((i : ℕ) → IsEnteredRightly faulty w (w i))
      → (i : ℕ) → IsEnteredRightly faulty (after_node_turns w steps) (after_node_turns w steps i)
  rightly_entered [] w v right comes all = all
  rightly_entered (turn ∷ steps) w v right comes all =
      let after = after_node_turn w turn in
      rightly_entered steps after (turns.after_view_turns v (map (turn_of turn.who) (deeds_of (w turn.who).node turn.step))) (right_on same views written one f faulty w v right turn comes.0) comes.1
      (both_at w turn (λ i r. IsEnteredRightly faulty after r) (rightly_here w v right turn comes.0 (all turn.who))
      (λ i s e p of. said_later faulty w after (sent_on w turn) p.message (all i s e p of)))
