-- Nodes agree.
use Rattle.std.proofs.Common.{◌≡◌, ℕ, Bool, false, List, [], ◌∷◌, map, refl, sym, ap₂, subst, ◌∙◌}
use Rattle.bfs_votes.specs.Laws.{QuorumsMeet}
use Rattle.bfs_checkpoints.specs.Texts.{node_digest}
use Rattle.bfs_log.specs.Logs.{Log}
use Rattle.bfs_codec.specs.Laws.{MessageWasWritten, OneBatch}
use Rattle.bfs_messages.specs.Messages as model
use Rattle.bfs_messages.specs.declared.signed.Signed.{Signed}
use Rattle.bfs_messages.specs.declared.message.Message.{Message}
use Rattle.bfs_order.specs.Laws.Calls.{CallsKeepTheReplica, IsKept}
use Rattle.bfs_order.specs.Laws.Certificates.{CertificatesMakeStable}
use Rattle.bfs_order.specs.Laws.Logs.{HasNoLaterView}
use Rattle.bfs_agreement.specs.Histories.{IsIn, FewAreFaulty}
use Rattle.bfs_nodes_agree.specs.Orders.Replicas as ordered
use Rattle.bfs_nodes_agree.specs.Views.Laws.{ReplicasAgree}
use Rattle.bfs_nodes_agree.specs.Views.Replicas as turns
use Rattle.bfs_nodes_agree.specs.Nodes.Laws.{ComesOfBatches, Executed, FairIsAuthentic, NodesAgree, StepsAreTurns, TurnsMayBeTaken, WhatIsSentIsFair}
use Rattle.bfs_nodes_agree.specs.Nodes.Premises.{AreAuthentic, AreFair, Comes, IsAuthentic, IsFair, StatesDontCollide}
use Rattle.bfs_nodes_agree.specs.Nodes.Replicas.{Beginning, NodeReplicas, Standing, NodeTurn, after_node_turn, after_node_turns, new_node_replicas, turn_of, ordered_turns}
use Rattle.bfs_nodes_agree.specs.Nodes.Steps.{NodeStep, Delivers, Takes, Adopts, Settles, deeds_of}
use Rattle.bfs_nodes_agree.proofs.Nodes.Hearing.{said_alike}
use Rattle.bfs_nodes_agree.proofs.Nodes.States.{StatesKnown, digest_tells, new_states, one_state, reached_on, states_on}
use Rattle.bfs_nodes_agree.proofs.Nodes.Turns.{AreRight, may_be_taken, new_right, right_on, step_right}

pub turns_may_be_taken : CallsKeepTheReplica → IsKept HasNoLaterView → MessageWasWritten → OneBatch → TurnsMayBeTaken
turns_may_be_taken same views written one f keys start faulty steps shared comes =
    may_be_taken same views written one f faulty steps (new_node_replicas f keys start) (ordered.new_order_replicas f) (new_right same views written one f faulty keys start shared) comes

pub reached_later : (steps : List NodeTurn) (w : NodeReplicas) (i : ℕ) (s : Standing) → IsIn s (w i).reached → IsIn s (after_node_turns w steps i).reached
reached_later [] w i s j = j
reached_later (turn ∷ steps) w i s j = reached_later steps (after_node_turn w turn) i s (reached_on w turn i s j)

module _ (same : CallsKeepTheReplica) (views : IsKept HasNoLaterView) (written : MessageWasWritten) (one : OneBatch) (meet : QuorumsMeet) (stable : CertificatesMakeStable)
    (start : Beginning) (f : ℕ) (faulty : ℕ → Bool) (few : FewAreFaulty f faulty) where
  states_known : (steps : List NodeTurn) (w : NodeReplicas) (v : ordered.OrderReplicas) → AreRight f faulty w v → StatesKnown start faulty w → AreAuthentic faulty w steps
      → StatesDontCollide faulty (after_node_turns w steps) → StatesKnown start faulty (after_node_turns w steps)
  states_known [] w v right known_of comes apart = known_of
  states_known (turn ∷ steps) w v right known_of comes apart =
      let who = turn.who in
      let node = (w who).node in
      let done = step_right same views written one f faulty w v right turn comes.0 in
      let next = after_node_turn w turn in
      let apart_now : StatesDontCollide faulty next = λ i j s t a b x y. apart i j s t a b (reached_later steps next i s x) (reached_later steps next j t y) in
      let known_now = states_on meet stable start f faulty few w turn known_of (right who).same_f (λ m i. ((right who).log m i).whole) comes.0 done.stands (λ s c i e. (done.sends s i).1.0 c e) apart_now in
      states_known steps next (turns.after_view_turns v (map (turn_of who) (deeds_of node turn.step))) (right_on same views written one f faulty w v right turn comes.0) known_now comes.1 apart

-- What nodes are given --------------------------------------------------------------------------------------------------------

pub what_is_sent_is_fair : WhatIsSentIsFair
what_is_sent_is_fair faulty w keys j m correct i p of k e signed fine = record { who = j; correct = correct; sent = m; given = i; part = p; is = of; same = refl }

comes_so : (P Q : Signed Message → Type 0) → ((m : Signed Message) → P m → Q m) → (step : NodeStep) → Comes P step → Comes Q step
comes_so P Q so (Delivers bytes) comes = (comes.0, λ m e p of. so p (comes.1 m e p of))
comes_so P Q so (Takes signed) comes = (comes.0, λ p of. so p (comes.1 p of))
comes_so P Q so (Adopts certificate files table) comes = λ m i. so m (comes m i)
comes_so P Q so (Settles certificate) comes = λ m i. so m (comes m i)
comes_so P Q so step comes = tt

module _ (same : CallsKeepTheReplica) (views : IsKept HasNoLaterView) (written : MessageWasWritten) (one : OneBatch) (f : ℕ) (faulty : ℕ → Bool) where
  authentic_on : (steps : List NodeTurn) (w : NodeReplicas) (v : ordered.OrderReplicas) → AreRight f faulty w v → AreFair faulty w steps → AreAuthentic faulty w steps
  authentic_on [] w v right fair = tt
  authentic_on (turn ∷ steps) w v right fair =
      let node = (w turn.who).node in
      let authentic : (m : Signed Message) → IsFair faulty w node.keys m → IsAuthentic faulty w node.keys m = λ m is k e signed correct.
      let was = is k e signed correct in
      said_alike faulty w was.part.message m.message was.same ((right was.who).said was.sent was.given was.part was.is) k e correct in
      let comes = comes_so (IsFair faulty w node.keys) (IsAuthentic faulty w node.keys) authentic turn.step fair.0 in
      (comes, authentic_on steps (after_node_turn w turn) (turns.after_view_turns v (map (turn_of turn.who) (deeds_of node turn.step))) (right_on same views written one f faulty w v right turn comes) fair.1)

pub fair_is_authentic : CallsKeepTheReplica → IsKept HasNoLaterView → MessageWasWritten → OneBatch → FairIsAuthentic
fair_is_authentic same views written one f keys start faulty steps shared fair =
    authentic_on same views written one f faulty steps (new_node_replicas f keys start) (ordered.new_order_replicas f) (new_right same views written one f faulty keys start shared) fair

-- They agree --------------------------------------------------------------------------------------------------------------------

pub nodes_agree : StepsAreTurns → TurnsMayBeTaken → ReplicasAgree → CallsKeepTheReplica → IsKept HasNoLaterView → MessageWasWritten → OneBatch → QuorumsMeet → CertificatesMakeStable → NodesAgree
nodes_agree are may agree same views written one_batch meet stable f keys start faulty steps shared few comes batches_apart states_apart =
    let begun = new_node_replicas f keys start in
    let w = after_node_turns begun steps in
    let list = ordered_turns begun steps in
    let taken = may f keys start faulty steps shared comes in
    let known_of = states_known same views written one_batch meet stable start f faulty few steps begun (ordered.new_order_replicas f) (new_right same views written one_batch f faulty keys start shared)
    (new_states f keys start faulty) comes states_apart in
    let batches : (i j number : ℕ) (batch other : model.Batch) → faulty i ≡ false → faulty j ≡ false → Executed (w i) number batch → Executed (w j) number other → batch ≡ other =
    λ i j number batch other a b x y.
    let one = digest_tells x.0.message (record { number = number; batch = batch }) (known_of.whole i x.0 x.1) x.2 in
    let two = digest_tells y.0.message (record { number = number; batch = other }) (known_of.whole j y.0 y.1) y.2 in
    let digests = agree f faulty list few taken i j x.0 y.0
    (subst (λ (l : Log). IsIn x.0 l) (sym (are f keys start steps i).executed) x.1)
    (subst (λ (l : Log). IsIn y.0 l) (sym (are f keys start steps j).executed) y.1) (one.0 ∙ sym two.0) in
    batches_apart i j number batch other a b x y (sym one.1 ∙ digests ∙ two.1) in
    record {
      batches = batches;
      states = λ i j s t a b x y number.
          let at = known_of.comes i s a x in
          let there = subst (λ (n : ℕ). ComesOfBatches start faulty w n t.files t.table) (sym number) (known_of.comes j t b y) in
          let equal = one_state start faulty w batches s.number s.files t.files s.table t.table at there in
          (equal, ap₂ node_digest equal.0 equal.1);
      comes = known_of.comes;
    }
