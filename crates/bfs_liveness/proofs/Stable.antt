-- What is stable at a node a member has executed: one of the CHECKPOINTs by which it is so is a member's.
use Rattle.std.proofs.Common.{◌≡◌, ℕ, ◌+◌, ◌*◌, ◌<◌, ◌≤◌, Bool, true, false, not, List, [], ◌∷◌, ◌⊎◌, Some, None, inl, inr, refl, sym, ap, subst, ◌∙◌, arith}
use Rattle.std.proofs.lemmas.Bool.{leb-true}
use Rattle.bfs_auth.specs.declared.principals.Principal.TheVariants as principal
use Rattle.bfs_auth.specs.declared.authenticators.Authenticator.{Authenticator}
use Rattle.bfs_log.specs.Certificates.{faults}
use Rattle.bfs_log.specs.Headers.{header}
use Rattle.bfs_log.specs.Logs.{headers}
use Rattle.bfs_messages.specs.Messages as model
use Rattle.bfs_messages.specs.Signing.{as_message}
use Rattle.bfs_messages.specs.declared.message.Message.{Message}
use Rattle.bfs_messages.specs.declared.message.Message.TheVariants.{NewView, Order}
use Rattle.bfs_messages.specs.declared.order_messages.OrderMessage.{OrderMessage}
use Rattle.bfs_messages.specs.declared.order_messages.OrderMessage.TheVariants.{Checkpoint, PrePrepare}
use Rattle.bfs_messages.specs.declared.signed.Signed.{Signed}
use Rattle.bfs_votes.specs.Votes.{Header, Told, is_stable, replicas, tellers, told}
use Rattle.bfs_votes.proofs.Public.{none_below}
use Rattle.bfs_order.specs.Laws.Calls.{Call, IsKept, Takes, Proposes, Executes, Checkpoints, Installs, Leaves, Enters, execution}
use Rattle.bfs_order.specs.Laws.Calls as order
use Rattle.bfs_order.specs.Laws.Logs.{HasCertificate}
use Rattle.bfs_order.specs.Replica.Accepting.{accepted}
use Rattle.bfs_order.specs.Replica.Checkpoints.{checkpoint_refusal, checkpointed}
use Rattle.bfs_order.specs.Replica.Executing.{next_order}
use Rattle.bfs_order.specs.Replica.Installing.{install_refusal, installed}
use Rattle.bfs_order.specs.Replica.Proposing.{proposal_refusal, proposed}
use Rattle.bfs_order.specs.Replica.Refusals.{refusal}
use Rattle.bfs_order.specs.Replica.States.{State, known}
use Rattle.bfs_order.specs.Replica.Views.{entered, entering_refusal, leaving_refusal, left}
use Rattle.bfs_agreement.specs.Histories.{FewAreFaulty, IsIn, World}
use Rattle.bfs_agreement.specs.Moves.{new_world}
use Rattle.bfs_agreement.proofs.Public.{Is}
use Rattle.bfs_progress.proofs.Public.{apart, one_more}
use Rattle.bfs_nodes_agree.specs.Nodes.Premises.{AreAuthentic, Comes, HasSaid, IsAuthentic, SaysTheSame, offers_in, signed_part}
use Rattle.bfs_nodes_agree.specs.Nodes.Replicas.{Beginning, Keyring, NodeReplica, NodeReplicas, NodeTurn, after_node_turn, after_node_turns, new_node_replicas}
use Rattle.bfs_nodes_agree.specs.Nodes.Steps.{deeds_of, outcome}
use Rattle.bfs_nodes_agree.specs.Orders.Replicas.{OrderReplicas, new_order_replicas}
use Rattle.bfs_nodes_agree.proofs.Public.{at_each, both_at, either_in, either_way, entered_same, here_after, out_of_map, right_on, stays_kept, step_right, told_in}
use Rattle.bfs_nodes_progress.specs.Following.{AreMembers}
use Rattle.bfs_nodes_progress.specs.Inside.Below.{Below}
use Rattle.bfs_nodes_progress.specs.Runs.{IsARun, order_of, reached}
use Rattle.bfs_nodes_progress.proofs.Public.{Facts, always, same_f, start_facts, step_on}
use Rattle.bfs_liveness.specs.LawsOfMarks.{WhatIsStableWasExecuted}

-- Of what number a message tells --------------------------------------------------------------------------------------

-- a CHECKPOINT of its own; any other of none
abbrev told_number : Message → ℕ
told_number (Order (Checkpoint c)) = c.number
told_number other = 0

part_number : (m : Message) → told_number (signed_part m) ≡ told_number m
part_number (Order (PrePrepare proposal)) = refl
part_number other = refl

same_number : (one other : Message) → SaysTheSame one other → told_number one ≡ told_number other
same_number one other same = sym (part_number one) ∙ ap told_number same ∙ part_number other

offer_number : (m : Message) (p : Signed OrderMessage) → IsIn p (offers_in m) → told_number (Order p.message) ≡ 0
offer_number (NewView new) p i = ap (λ (x : Signed OrderMessage). told_number (Order x.message)) (out_of_map (as_message PrePrepare) new.proposals p i).2
offer_number other p i = absurd i

header_number : (m : OrderMessage) (auth : Authenticator) → (header (record { message = m; auth = auth })).tag ≡ 5 → (header (record { message = m; auth = auth })).number ≡ told_number (Order m)
header_number (Checkpoint c) auth five = refl
header_number other auth five = absurd cc

own_number : (m : Message) (last : ℕ) → ((c : model.Checkpoint) → m ≡ Order (Checkpoint c) → c.number ≡ last) → told_number m ≤ last
own_number (Order (Checkpoint c)) last own = let is = own c refl in omega (arith, is)
own_number other last own = omega arith

-- each that it has sent is of a number that it has executed
abbrev HasExecutedTold : NodeReplica → Type 0
HasExecutedTold r = (s : Signed Message) → IsIn s r.sent → told_number s.message ≤ r.node.order.last

said_number : (r : NodeReplica) → HasExecutedTold r → (m : Message) → HasSaid r.sent m → told_number m ≤ r.node.order.last
said_number r all m said = elim said.2 [
  | inl same ↦ let le = all said.0 said.1 in let is = same_number said.0.message m same in omega (arith, le, is)
  | inr offer ↦ let none = offer_number said.0.message offer.0 offer.1 in let is = same_number (Order offer.0.message) m offer.2 in omega (arith, none, is)
]

-- no call lowers the number last executed
last_kept : (number : ℕ) (s : State) (call : Call) → number ≤ s.last → number ≤ (order.outcome s call).now.last
last_kept number s (Takes keys m) h = either_way (λ o. number ≤ o.now.last) (refusal keys s m) s (accepted keys s m) (λ _. h) h
last_kept number s (Proposes keys batch) h = either_way (λ o. number ≤ o.now.last) (proposal_refusal s) s (proposed keys s batch) (λ _. h) h
last_kept number s Executes h = elim (next_order s) as (λ o. number ≤ (execution s o).now.last) [ None ↦ h | Some m ↦ omega (arith, h) ]
last_kept number s (Checkpoints keys n digest) h = either_way (λ o. number ≤ o.now.last) (checkpoint_refusal s n) s (checkpointed keys s n digest) (λ _. h) h
last_kept number s (Installs keys certificate) h = either_way (λ o. number ≤ o.now.last) (install_refusal keys s certificate) s (installed s certificate) (λ _. omega (arith, h)) h
last_kept number s (Leaves view) h = either_way (λ o. number ≤ o.now.last) (leaving_refusal s view) s (left s view) (λ _. h) h
last_kept number s (Enters keys view stable handed) h = either_way (λ o. number ≤ o.now.last) (entering_refusal s view) s (entered keys s view stable handed)
    (λ _. let same = entered_same (λ (u : State). u.last) (λ u low log. refl) keys s view stable handed in omega (arith, h, same)) h

-- Over every run ------------------------------------------------------------------------------------------------------

module _ (laws : Below) (f : ℕ) (faulty : ℕ → Bool) (positive : 0 < f) (few : FewAreFaulty f faulty) where
  module _ (w : NodeReplicas) (v : OrderReplicas) (t : World) (facts : Facts f faulty w v t) (turn : NodeTurn) (comes : Comes (IsAuthentic faulty w (w turn.who).node.keys) turn.step) where
    -- what each call of an order keeps
    pub order_keeps : (P : State → Type 0) → ((s : State) (call : Call) → P s → P (order.outcome s call).now) → (k : ℕ) → P (order_of w k) → P (order_of (after_node_turn w turn) k)
    order_keeps P kept k is =
        let deeds = deeds_of (w turn.who).node turn.step in
        subst P (right_on laws.same laws.views laws.written laws.one f faulty w v facts.right turn comes k).tracks.state
        (at_each (λ i r o. P (v i).state → P o.state) turn w v (stays_kept P kept deeds (v turn.who)) (λ i x. x) k (subst P (sym (facts.right k).tracks.state) is))

    told_on : ((k : ℕ) → HasExecutedTold (w k)) → (k : ℕ) → HasExecutedTold (after_node_turn w turn k)
    told_on all =
        let who = turn.who in
        let node = (w who).node in
        let out = outcome node turn.step in
        let rises = λ (number : ℕ) (le : number ≤ node.order.last). subst (λ (r : NodeReplica). number ≤ r.node.order.last) (here_after w turn) (order_keeps (λ s. number ≤ s.last) (last_kept number) who le) in
        both_at w turn (λ _ r. HasExecutedTold r) (λ s i. elim (either_in out.sent (w who).sent s i) [
          | inl now ↦
              let tells = (step_right laws.same laws.views laws.written laws.one f faulty w v facts.right turn comes).sends s now in
              rises (told_number s.message) (own_number s.message node.order.last (λ c e. (tells.1.0 c e).2))
          | inr before ↦ rises (told_number s.message) (all who s before)
        ]) all

  told_executed : (w : NodeReplicas) (v : OrderReplicas) (t : World) → Facts f faulty w v t → ((k : ℕ) → HasExecutedTold (w k)) → (turns : List NodeTurn) → AreAuthentic faulty w turns
      → (k : ℕ) → HasExecutedTold (after_node_turns w turns k)
  told_executed w v t facts all [] authentic = all
  told_executed w v t facts all (turn ∷ turns) authentic =
      let first = step_on laws f faulty positive few w v t facts turn authentic.0 in
      told_executed (after_node_turn w turn) first.orders first.world first.facts (told_on w v t facts turn authentic.0 all) turns authentic.1

  has_certificate : IsKept HasCertificate → (w : NodeReplicas) (v : OrderReplicas) (t : World) → Facts f faulty w v t → ((k : ℕ) → HasCertificate (order_of w k)) → (turns : List NodeTurn) → AreAuthentic faulty w turns
      → (k : ℕ) → HasCertificate (order_of (after_node_turns w turns) k)
  has_certificate kept w v t facts all [] authentic = all
  has_certificate kept w v t facts all (turn ∷ turns) authentic =
      let first = step_on laws f faulty positive few w v t facts turn authentic.0 in
      has_certificate kept (after_node_turn w turn) first.orders first.world first.facts (λ k. order_keeps w v t facts turn authentic.0 HasCertificate kept.1 k (all k)) turns authentic.1

  -- who has told a digest by a CHECKPOINT that stands in a log has said it
  pub teller_said : (w : NodeReplicas) (v : OrderReplicas) (t : World) → Facts f faulty w v t → (k j number : ℕ) (digest : List ℕ) → faulty j ≡ false → Told (known (order_of w k)) 5 j 0 number digest
      → (m : Signed OrderMessage) × HasSaid (w j).sent (Order m.message) × ((header m).tag ≡ 5) × ((header m).number ≡ number)
  teller_said w v t facts k j number digest correct tells =
      let log = (order_of w k).log in
      let right = facts.right k in
      let heard = told_in (headers log) 5 j 0 number digest tells in
      let from = out_of_map header log heard.0 heard.1 in
      let is = subst (λ (h : Header). Is h 5 j 0 number digest) from.2 heard.2 in
      let many : 0 < faults (w k).node.keys = subst (λ (n : ℕ). 0 < n) (sym (right.fit ∙ right.same_f)) positive in
      (from.0, (right.log from.0 from.1).said (λ _. many) j (ap principal.Replica is.sender) correct, is.tag, is.number)

  -- and has executed up to its number
  teller_executed : (w : NodeReplicas) (v : OrderReplicas) (t : World) → Facts f faulty w v t → ((k : ℕ) → HasExecutedTold (w k)) → (k j number : ℕ) (digest : List ℕ) → faulty j ≡ false
      → Told (known (order_of w k)) 5 j 0 number digest → number ≤ (order_of w j).last
  teller_executed w v t facts all k j number digest correct tells =
      let said = teller_said w v t facts k j number digest correct tells in
      let m = said.0 in
      let le = said_number (w j) (all j) (Order m.message) said.1 in
      let of_number = header_number m.message m.auth said.2 in
      let number_is = said.3 in
      omega (arith, le, of_number, number_is)

-- A member's CHECKPOINT -----------------------------------------------------------------------------------------------

is_member : (b : Bool) → not b ≡ false → b ≡ true
is_member true e = refl
is_member false e = absurd cc

-- among 2f + 1 that tell a digest is a member
a_member_tells : (f : ℕ) (faulty members : ℕ → Bool) → AreMembers f faulty members → (log : List Header) (number : ℕ) (digest : List ℕ) → is_stable f log number digest ≡ true
    → (j : ℕ) × (members j ≡ true) × Told log 5 j 0 number digest
a_member_tells f faulty members are log number digest stable =
    let many = leb-true (2 * f + 1) (tellers f log 5 0 number digest) stable in
    let all = apart members (replicas f) in
    let enough = are.enough in
    let got = one_more (λ k. told log 5 k 0 number digest) (λ k. not (members k)) (replicas f) (omega (arith, many, all, enough)) in
    (got.0, is_member (members got.0) got.3, got.2)

-- so a member tells what is stable at a node, unless that is 0
pub a_member_told : Below → IsKept HasCertificate → (f : ℕ) (keys : Keyring) (start : Beginning) (faulty members : ℕ → Bool) (turns : List NodeTurn) (k : ℕ) → IsARun f keys start faulty turns → AreMembers f faulty members
    → let s = order_of (reached f keys start turns) k in
    (s.low ≡ 0) ⊎ ((j : ℕ) × (members j ≡ true) × (digest : List ℕ) × Told (known s) 5 j 0 s.low digest)
a_member_told laws kept f keys start faulty members turns k run are =
    let first = new_node_replicas f keys start in
    let begun = start_facts laws f faulty run.others run.few keys start run.shared in
    let led = always laws f faulty run.others run.few keys start turns run.shared run.authentic in
    let s = order_of (reached f keys start turns) k in
    elim (has_certificate laws f faulty run.others run.few kept first (new_order_replicas f) new_world begun (λ i. kept.0 f i) turns run.authentic k) [
      | inl zero ↦ inl zero
      | inr has ↦
          let is_f = same_f f faulty (reached f keys start turns) led.orders led.world led.facts k in
          let teller = a_member_tells f faulty members are (known s) s.low has.0 (subst (λ (g : ℕ). is_stable g (known s) s.low has.0 ≡ true) is_f has.1.stable) in
          inr (teller.0, teller.1, has.0, teller.2)
    ]

pub what_is_stable_was_executed : Below → IsKept HasCertificate → WhatIsStableWasExecuted
what_is_stable_was_executed laws kept f keys start faulty members turns k run are =
    let first = new_node_replicas f keys start in
    let w = reached f keys start turns in
    let s = order_of w k in
    elim (a_member_told laws kept f keys start faulty members turns k run are) [
      | inl zero ↦
          let enough = are.enough in
          let none = none_below (λ (i : ℕ). false) (replicas f) (λ i. refl) in
          let some = one_more members (λ i. false) (replicas f) (omega (arith, enough, none)) in
          (some.0, some.2, omega (arith, zero))
      | inr teller ↦
          let led = always laws f faulty run.others run.few keys start turns run.shared run.authentic in
          let all = told_executed laws f faulty run.others run.few first (new_order_replicas f) new_world (start_facts laws f faulty run.others run.few keys start run.shared) (λ i x none. absurd none) turns run.authentic in
          (teller.0, teller.1, teller_executed laws f faulty run.others run.few w led.orders led.world led.facts all k teller.0 s.low teller.2 (are.correct teller.0 teller.1) teller.3)
    ]
