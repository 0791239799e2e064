-- What a node gives again was sent by it before.
use Rattle.std.proofs.Common.{◌≡◌, ◌<◌, ℕ, Bool, true, false, cond, List, [], ◌∷◌, ◌++◌, ◌⊎◌, Option, Some, None, map, inl, inr, refl, sym, ap, subst, ◌∙◌}
use Rattle.std.specs.Prelude.{nat_lt, option_to_list}
use Rattle.std.proofs.lemmas.Bool.{and_parts, eqb-true}
use Rattle.bfs_auth.specs.declared.principals.Principal.TheVariants as principal
use Rattle.bfs_auth.specs.Keys.{Keys}
use Rattle.bfs_log.specs.Certificates.{faults}
use Rattle.bfs_log.specs.Headers.{header}
use Rattle.bfs_log.specs.Logs.{as_messages}
use Rattle.bfs_codec.specs.Laws.{MessageWasWritten, OneBatch}
use Rattle.bfs_messages.specs.Messages as model
use Rattle.bfs_messages.specs.Signing.{as_message}
use Rattle.bfs_messages.specs.declared.signed.Signed.{Signed}
use Rattle.bfs_messages.specs.declared.message.Message.{Message}
use Rattle.bfs_messages.specs.declared.message.Message.TheVariants.{Order, ViewChange, NewView}
use Rattle.bfs_messages.specs.declared.order_messages.OrderMessage.{OrderMessage}
use Rattle.bfs_order.specs.Laws.Calls.{CallsKeepTheReplica, IsKept}
use Rattle.bfs_order.specs.Laws.Logs.{HasNoLaterView}
use Rattle.bfs_order.specs.Laws.Resent.{WhatIsResentIsOwn}
use Rattle.bfs_order.specs.Replica.Resending as order
use Rattle.bfs_order.specs.Replica.Views.{as_proposals}
use Rattle.bfs_order.specs.declared.resending.Lag.{Lag}
use Rattle.bfs_agreement.specs.Histories.{IsIn}
use Rattle.bfs_nodes_agree.specs.Orders.Replicas as ordered
use Rattle.bfs_nodes_agree.proofs.Orders.Lists.{either_in, left_in, right_in, some_is}
use Rattle.bfs_nodes_agree.proofs.Views.Lists.{contains, in_map, is_in, out_of_map}
use Rattle.bfs_nodes_agree.specs.Views.Replicas as turns
use Rattle.bfs_node.specs.Changing.{begun, begun_if_due, leads, may_begin, own_change, with_view_change}
use Rattle.bfs_node.specs.Nodes.{Node, Outcome}
use Rattle.bfs_node.specs.Resending.{change_resent, new_view_resent, resent}
use Rattle.bfs_view_change.specs.Changes.Keeping.{Kept, with_asked, with_change}
use Rattle.bfs_nodes_agree.specs.Nodes.Premises.{AreAuthentic, AreShared, HasSaid, IsWhollyFair, IsWithin, WasGiven, offers_in, signed_part}
use Rattle.bfs_nodes_agree.specs.Nodes.Replicas.{Beginning, Keyring, NodeReplica, NodeReplicas, NodeTurn, after_node_step, after_node_turn, after_node_turns, new_node_replicas, turn_of}
use Rattle.bfs_nodes_agree.specs.Nodes.Resending.{IsSaidAgain, WhatIsResentIsFair, WhatIsResentWasSent, HasComeTo, IsItsNewView}
use Rattle.bfs_nodes_agree.specs.Nodes.Steps.{NodeStep, still, outcome, deeds_of}
use Rattle.bfs_nodes_agree.proofs.Nodes.Agree.{what_is_sent_is_fair}
use Rattle.bfs_nodes_agree.proofs.Nodes.Entered.{origin, rightly_entered}
use Rattle.bfs_nodes_agree.proofs.Nodes.Hearing.{IsWhollySaid}
use Rattle.bfs_nodes_agree.proofs.Nodes.Kinds.{Left, Rested, TookChange, TookNewView, step_kind}
use Rattle.bfs_nodes_agree.proofs.Nodes.States.{both_at}
use Rattle.bfs_nodes_agree.proofs.Nodes.Turns.{AreRight, new_right, right_on}

-- Its own VIEW-CHANGE -----------------------------------------------------------------------------------------------------------

abbrev Change : Type 0
Change = Signed model.ViewChange

-- the last one that it keeps
abbrev KeepsAs : Node → Node → Type 0
KeepsAs node now = now.changes.own ≡ node.changes.own

begins_keeps : (node : Node) → KeepsAs node (begun_if_due node).now
begins_keeps node = elim (may_begin node) as (λ b. KeepsAs node (cond b (begun node) (still node)).now) [ true ↦ refl | false ↦ refl ]

pub change_keeps : (node : Node) (s : Change) → KeepsAs node (with_view_change node s).now
change_keeps node s =
    let there = record node { changes = with_change node.changes s } in
    let noted = record node { changes = with_asked node.changes s.message } in
    elim (leads node s.message.view) as (λ b. KeepsAs node (cond b (begun_if_due there) (still noted)).now) [ true ↦ begins_keeps there | false ↦ refl ]

-- it keeps what it kept, or what it sends now
abbrev KeptOrSent : Node → Outcome → Type 0
KeptOrSent node out = (s : Change) → out.now.changes.own ≡ Some s → (node.changes.own ≡ Some s) ⊎ IsIn (as_message ViewChange s) out.sent

step_keeps : (node : Node) (step : NodeStep) → KeptOrSent node (outcome node step)
step_keeps node step = elim (step_kind node step) [
  | Rested rests ↦ λ s e. inl (ap (λ (k : Kept). k.own) (sym rests.changes) ∙ e)
  | TookChange c ↦ subst (KeptOrSent node) (sym c.is) (λ s e. inl (sym (change_keeps node c.change) ∙ e))
  | TookNewView c ↦ subst (KeptOrSent node) (sym c.is) (λ s e. inl e)
  | Left l ↦ subst (KeptOrSent node) (sym l.is) (λ s e. inr (inl (ap (as_message ViewChange) (sym (some_is (own_change node l.view) s e)))))
]

abbrev OwnIsSent : NodeReplica → Type 0
OwnIsSent r = (s : Change) → r.node.changes.own ≡ Some s → IsIn (as_message ViewChange s) r.sent

own_here : (r : NodeReplica) (step : NodeStep) → OwnIsSent r → OwnIsSent (after_node_step r step)
own_here r step is s e = elim (step_keeps r.node step s e) [
  | inl before ↦ right_in (outcome r.node step).sent r.sent (as_message ViewChange s) (is s before)
  | inr now ↦ left_in (outcome r.node step).sent r.sent (as_message ViewChange s) now
]

own_sent : (steps : List NodeTurn) (w : NodeReplicas) → ((i : ℕ) → OwnIsSent (w i)) → (i : ℕ) → OwnIsSent (after_node_turns w steps i)
own_sent [] w all = all
own_sent (turn ∷ steps) w all = own_sent steps (after_node_turn w turn) (both_at w turn (λ i r. OwnIsSent r) (own_here (w turn.who) turn.step (all turn.who)) all)

-- What its order gives again ----------------------------------------------------------------------------------------------------

module _ (same : CallsKeepTheReplica) (views : IsKept HasNoLaterView) (written : MessageWasWritten) (one : OneBatch) (f : ℕ) (faulty : ℕ → Bool) where
  right_then : (steps : List NodeTurn) (w : NodeReplicas) (v : ordered.OrderReplicas) → AreRight f faulty w v → AreAuthentic faulty w steps
      → (u : ordered.OrderReplicas) × AreRight f faulty (after_node_turns w steps) u
  right_then [] w v right comes = (v, right)
  right_then (turn ∷ steps) w v right comes =
      right_then steps (after_node_turn w turn) (turns.after_view_turns v (map (turn_of turn.who) (deeds_of (w turn.who).node turn.step))) (right_on same views written one f faulty w v right turn comes.0) comes.1

order_said : WhatIsResentIsOwn → (f : ℕ) (faulty : ℕ → Bool) (w : NodeReplicas) (v : ordered.OrderReplicas) → 0 < f → AreRight f faulty w v → (i : ℕ) → faulty i ≡ false → (to : Lag) (m : Signed OrderMessage)
    → IsIn m (order.resent (w i).node.order to) → HasSaid (w i).sent (Order m.message)
order_said own f faulty w v others right i correct to m j =
    let r = right i in
    let node = (w i).node in
    let it = own node.order to m (contains (order.resent node.order to) m j) in
    let sender = eqb-true (header m).sender node.order.me (and_parts _ _ it.1).0 in
    let many : 0 < faults node.keys = subst (λ (n : ℕ). 0 < n) (sym (r.fit ∙ r.same_f)) others in
    (r.log m (is_in node.order.log m it.0)).said (λ four. many) i (ap principal.Replica (sender ∙ r.me)) correct

change_said : (r : NodeReplica) → OwnIsSent r → (m : Signed Message) → IsIn m (change_resent r.node) → (s : Change) × (m ≡ as_message ViewChange s) × IsIn (as_message ViewChange s) r.sent
change_said r is m = go (nat_lt r.node.order.view r.node.order.asked) r.node.changes.own refl
  where
    go : (b : Bool) (o : Option Change) → r.node.changes.own ≡ o → IsIn m (cond b (map (as_message ViewChange) (option_to_list o)) []) → (s : Change) × (m ≡ as_message ViewChange s) × IsIn (as_message ViewChange s) r.sent
    go false o e j = absurd j
    go true None e j = absurd j
    go true (Some s) e j = elim j [
      | inl same ↦ (s, same, is s e)
      | inr none ↦ absurd none
    ]

new_view_kept : (node : Node) (to : Lag) (m : Signed Message) → IsIn m (new_view_resent node to) → (s : Signed model.NewView) × (m ≡ as_message NewView s) × (node.new_view ≡ Some s)
new_view_kept node to m = go (nat_lt to.view node.order.view) node.new_view refl
  where
    go : (b : Bool) (o : Option (Signed model.NewView)) → node.new_view ≡ o → IsIn m (cond b (map (as_message NewView) (option_to_list o)) []) → (s : Signed model.NewView) × (m ≡ as_message NewView s) × (node.new_view ≡ Some s)
    go false o e j = absurd j
    go true None e j = absurd j
    go true (Some s) e j = elim j [
      | inl same ↦ (s, same, e)
      | inr none ↦ absurd none
    ]

-- What it gives again -----------------------------------------------------------------------------------------------------------

-- by whom a message was said gave it to be sent
said_given : (faulty : ℕ → Bool) (w : NodeReplicas) (k : ℕ) (m : Message) → faulty k ≡ false → HasSaid (w k).sent m → WasGiven faulty w m
said_given faulty w k m correct said = elim said.2 [
  | inl same ↦ record { who = k; correct = correct; sent = said.0; given = said.1; part = said.0; is = inl refl; same = same }
  | inr offer ↦ record {
    who = k;
    correct = correct;
    sent = said.0;
    given = said.1;
    part = as_message Order offer.0;
    is = inr (offered said.0.message offer.0 offer.1);
    same = offer.2;
  }
]
  where
    offered : (x : Message) (p : Signed OrderMessage) → IsIn p (offers_in x) → IsWithin (as_message Order p) x
    offered (NewView new) p i = inl (in_map (as_message Order) (as_proposals new.proposals) p i)
    offered other p i = absurd i

said_fair : (faulty : ℕ → Bool) (w : NodeReplicas) (by : Keys) (m : Signed Message) → IsWhollySaid faulty w m → IsWhollyFair faulty w by m
said_fair faulty w by m said p of k e signed correct = said_given faulty w k p.message correct (said p of k e correct)

-- nothing is within a message of the order
lone_fair : (faulty : ℕ → Bool) (w : NodeReplicas) (by : Keys) (i : ℕ) (m : Signed OrderMessage) → faulty i ≡ false → HasSaid (w i).sent (Order m.message) → IsWhollyFair faulty w by (as_message Order m)
lone_fair faulty w by i m correct said p of k e signed fine = elim of as (λ _. WasGiven faulty w p.message) [
  | inl same ↦ subst (λ (x : Signed Message). WasGiven faulty w x.message) (sym same) (said_given faulty w i (Order m.message) correct said)
  | inr within ↦ absurd within
]

module _ (same : CallsKeepTheReplica) (views : IsKept HasNoLaterView) (written : MessageWasWritten) (one : OneBatch) (own : WhatIsResentIsOwn)
    (f : ℕ) (keys : Keyring) (start : Beginning) (faulty : ℕ → Bool) (steps : List NodeTurn) (others : 0 < f) (shared : AreShared f keys) (comes : AreAuthentic faulty (new_node_replicas f keys start) steps)
    (i : ℕ) (correct : faulty i ≡ false) where
  abbrev first : NodeReplicas
  first = new_node_replicas f keys start

  abbrev w : NodeReplicas
  w = after_node_turns first steps

  abbrev none : ordered.OrderReplicas
  none = ordered.new_order_replicas f

  new : AreRight f faulty first none
  new = new_right same views written one f faulty keys start shared

  abbrev Own : Signed Message → Type 0
  Own m = (s : Change) × (m ≡ as_message ViewChange s) × IsIn (as_message ViewChange s) (w i).sent

  abbrev Of : Signed Message → Type 0
  Of m = (x : Signed OrderMessage) × (m ≡ as_message Order x) × HasSaid (w i).sent (Order x.message)

  abbrev OfView : Signed Message → Type 0
  OfView m = (s : Signed model.NewView) × (m ≡ as_message NewView s) × ((w i).node.new_view ≡ Some s)

  -- its VIEW-CHANGE, the NEW-VIEW that it keeps, or what its order has said
  parts : (to : Lag) (m : Signed Message) → IsIn m (resent (w i).node to) → Own m ⊎ (OfView m ⊎ Of m)
  parts to m j = elim (either_in (change_resent (w i).node) (new_view_resent (w i).node to ++ as_messages (order.resent (w i).node.order to)) m j) [
    | inl change ↦ inl (change_said (w i) (own_sent steps first (λ k s e. absurd cc) i) m change)
    | inr rest ↦ elim (either_in (new_view_resent (w i).node to) (as_messages (order.resent (w i).node.order to)) m rest) [
      | inl entered ↦ inr (inl (new_view_kept (w i).node to m entered))
      | inr said ↦
          let from = out_of_map (as_message Order) (order.resent (w i).node.order to) m said in
          let right = right_then same views written one f faulty steps first none new comes in
          inr (inr (from.0, from.2, order_said own f faulty w right.0 others right.1 i correct to from.0 from.1))
    ]
  ]

  pub said_again : IsSaidAgain i steps (w i)
  said_again to m j = elim (parts to m j) as (λ _. HasSaid (w i).sent m.message ⊎ IsItsNewView i steps (w i) m) [
    | inl change ↦ inl (as_message ViewChange change.0, change.2, inl (ap (λ (x : Signed Message). signed_part x.message) (sym change.1)))
    | inr rest ↦ elim rest as (λ _. HasSaid (w i).sent m.message ⊎ IsItsNewView i steps (w i) m) [
      | inl kept ↦ inr (record {
        new = kept.0;
        kept = kept.2;
        is = kept.1;
        known = subst (λ (x : Signed Message). IsIn x (w i).sent ⊎ HasComeTo i steps x) (sym kept.1) (elim (origin steps first i kept.0 kept.2) [ inl before ↦ absurd cc | inr known ↦ known ]);
      })
      | inr said ↦ inl (subst (λ (x : Signed Message). HasSaid (w i).sent x.message) (sym said.1) said.2)
    ]
  ]

  pub fair_again : (to : Lag) (m : Signed Message) (by : Keys) → IsIn m (resent (w i).node to) → IsWhollyFair faulty w by m
  fair_again to m by j = elim (parts to m j) as (λ _. IsWhollyFair faulty w by m) [
    | inl change ↦ subst (IsWhollyFair faulty w by) (sym change.1) (what_is_sent_is_fair faulty w by i (as_message ViewChange change.0) correct change.2)
    | inr rest ↦ elim rest as (λ _. IsWhollyFair faulty w by m) [
      | inl kept ↦ subst (IsWhollyFair faulty w by) (sym kept.1) (said_fair faulty w by (as_message NewView kept.0)
          (rightly_entered same views written one f faulty steps first none new comes (λ k s e. absurd cc) i kept.0 kept.2))
      | inr said ↦ subst (IsWhollyFair faulty w by) (sym said.1) (lone_fair faulty w by i said.0 correct said.2)
    ]
  ]

pub what_is_resent_was_sent : CallsKeepTheReplica → IsKept HasNoLaterView → MessageWasWritten → OneBatch → WhatIsResentIsOwn → WhatIsResentWasSent
what_is_resent_was_sent same views written one own f keys start faulty steps others shared comes i correct = said_again same views written one own f keys start faulty steps others shared comes i correct

pub what_is_resent_is_fair : CallsKeepTheReplica → IsKept HasNoLaterView → MessageWasWritten → OneBatch → WhatIsResentIsOwn → WhatIsResentIsFair
what_is_resent_is_fair same views written one own f keys start faulty steps others shared comes i correct = fair_again same views written one own f keys start faulty steps others shared comes i correct
