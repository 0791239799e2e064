-- Each CHECKPOINT that a node has sent is of a multiple of the interval, and so is what is stable.
use Rattle.std.proofs.Common.{◌≡◌, ℕ, ◌%◌, ◌<◌, Bool, List, [], ◌∷◌, inl, inr, refl, ap, subst, ◌∙◌}
use Rattle.bfs_auth.specs.declared.authenticators.Authenticator.{Authenticator}
use Rattle.bfs_log.specs.Headers.{header}
use Rattle.bfs_messages.specs.Messages as model
use Rattle.bfs_messages.specs.declared.message.Message.{Message}
use Rattle.bfs_messages.specs.declared.message.Message.TheVariants.{Order}
use Rattle.bfs_messages.specs.declared.order_messages.OrderMessage.{OrderMessage}
use Rattle.bfs_messages.specs.declared.order_messages.OrderMessage.TheVariants.{Checkpoint}
use Rattle.bfs_messages.specs.declared.signed.Signed.{Signed}
use Rattle.bfs_model.specs.Server.Limits.{checkpoint_interval}
use Rattle.bfs_order.specs.Laws.Calls.{IsKept}
use Rattle.bfs_order.specs.Laws.Logs.{HasCertificate}
use Rattle.bfs_agreement.specs.Histories.{IsIn, World, FewAreFaulty}
use Rattle.bfs_agreement.specs.Moves.{new_world}
use Rattle.bfs_nodes_agree.specs.Nodes.Premises.{AreAuthentic, HasSaid}
use Rattle.bfs_nodes_agree.specs.Nodes.Replicas.{NodeReplica, NodeReplicas, NodeTurn, after_node_turn, after_node_turns, new_node_replicas}
use Rattle.bfs_nodes_agree.specs.Nodes.Steps.{outcome}
use Rattle.bfs_nodes_agree.specs.Orders.Replicas.{OrderReplicas, new_order_replicas}
use Rattle.bfs_nodes_agree.proofs.Public.{IsBounded, both_at, either_in}
use Rattle.bfs_nodes_progress.specs.Inside.Below.{Below}
use Rattle.bfs_nodes_progress.specs.Runs.{order_of, reached}
use Rattle.bfs_nodes_progress.proofs.Public.{Facts, always, start_facts, step_on}
use Rattle.bfs_liveness.specs.LawsOfWindows.{CheckpointsAreOfMultiples, WhatIsStableIsAMultiple}
use Rattle.bfs_liveness.proofs.ComingUp.{said_sent}
use Rattle.bfs_liveness.proofs.Stable.{a_member_told, teller_said}
use Rattle.bfs_liveness.proofs.Telling.{step_multiple}

-- each CHECKPOINT that it has sent is of one
abbrev TellsMultiples : NodeReplica → Type 0
TellsMultiples r = (s : Signed Message) (c : model.Checkpoint) → IsIn s r.sent → s.message ≡ Order (Checkpoint c) → (c.number % checkpoint_interval) ≡ 0

module _ (laws : Below) (f : ℕ) (faulty : ℕ → Bool) (positive : 0 < f) (few : FewAreFaulty f faulty) where
  all_multiples : (w : NodeReplicas) (v : OrderReplicas) (t : World) → Facts f faulty w v t → ((k : ℕ) → TellsMultiples (w k)) → (turns : List NodeTurn) → AreAuthentic faulty w turns
      → (k : ℕ) → TellsMultiples (after_node_turns w turns k)
  all_multiples w v t facts all [] authentic = all
  all_multiples w v t facts all (turn ∷ turns) authentic =
      let who = turn.who in
      let node = (w who).node in
      let out = outcome node turn.step in
      let bounded = subst IsBounded (facts.right who).tracks.state (facts.right who).bounded in
      let first = step_on laws f faulty positive few w v t facts turn authentic.0 in
      all_multiples (after_node_turn w turn) first.orders first.world first.facts
      (both_at w turn (λ _ r. TellsMultiples r) (λ s c i e. elim (either_in out.sent (w who).sent s i) [ inl new ↦ step_multiple node turn.step bounded s c new e | inr old ↦ all who s c old e ]) all)
      turns authentic.1

pub checkpoints_are_of_multiples : Below → CheckpointsAreOfMultiples
checkpoints_are_of_multiples laws f keys start faulty turns k s c run i e =
    all_multiples laws f faulty run.others run.few (new_node_replicas f keys start) (new_order_replicas f) new_world (start_facts laws f faulty run.others run.few keys start run.shared)
    (λ k s c i e. absurd i) turns run.authentic k s c i e

-- What is stable ------------------------------------------------------------------------------------------------------

is_checkpoint : (m : OrderMessage) (auth : Authenticator) → (header (record { message = m; auth = auth })).tag ≡ 5
    → (c : model.Checkpoint) × (m ≡ Checkpoint c) × (c.number ≡ (header (record { message = m; auth = auth })).number)
is_checkpoint (Checkpoint c) auth five = (c, refl, refl)
is_checkpoint other auth five = absurd cc

pub what_is_stable_is_a_multiple : Below → IsKept HasCertificate → WhatIsStableIsAMultiple
what_is_stable_is_a_multiple laws kept f keys start faulty members turns k run are =
    let w = reached f keys start turns in
    let s = order_of w k in
    elim (a_member_told laws kept f keys start faulty members turns k run are) [
      | inl zero ↦ ap (λ (n : ℕ). n % checkpoint_interval) zero
      | inr teller ↦
          let j = teller.0 in
          let led = always laws f faulty run.others run.few keys start turns run.shared run.authentic in
          let said = teller_said laws f faulty run.others run.few w led.orders led.world led.facts k j s.low teller.2 (are.correct j teller.1) teller.3 in
          let m = said.0 in
          let c = is_checkpoint m.message m.auth said.2 in
          let sent = said_sent (w j).sent c.0 (subst (λ (x : OrderMessage). HasSaid (w j).sent (Order x)) c.1 said.1) in
          subst (λ (n : ℕ). (n % checkpoint_interval) ≡ 0) (c.2 ∙ said.3) (checkpoints_are_of_multiples laws f keys start faulty turns j sent.0 c.0 run sent.1 sent.2)
    ]
