-- Over every run: a node keeps the snapshot of each CHECKPOINT that it has sent, and no view begins behind a number that is not stable.
use Rattle.std.proofs.Common.{◌≡◌, ℕ, ◌<◌, ◌≤◌, Bool, List, [], ◌∷◌, inl, inr, ap, subst, arith}
use Rattle.bfs_messages.specs.Messages as model
use Rattle.bfs_messages.specs.declared.message.Message.{Message}
use Rattle.bfs_messages.specs.declared.message.Message.TheVariants.{Order}
use Rattle.bfs_messages.specs.declared.order_messages.OrderMessage.TheVariants.{Checkpoint}
use Rattle.bfs_messages.specs.declared.signed.Signed.{Signed}
use Rattle.bfs_agreement.specs.Histories.{IsIn, World, FewAreFaulty}
use Rattle.bfs_agreement.specs.Moves.{new_world}
use Rattle.bfs_nodes_agree.specs.Nodes.Premises.{AreAuthentic, Comes, IsAuthentic}
use Rattle.bfs_nodes_agree.specs.Nodes.Replicas.{NodeReplica, NodeReplicas, NodeTurn, after_node_turn, after_node_turns, new_node_replicas}
use Rattle.bfs_nodes_agree.specs.Nodes.Steps.{outcome}
use Rattle.bfs_nodes_agree.specs.Orders.Replicas.{OrderReplicas, new_order_replicas}
use Rattle.bfs_nodes_agree.proofs.Public.{IsBounded, both_at, either_in, here_after}
use Rattle.bfs_nodes_progress.specs.Inside.Below.{Below}
use Rattle.bfs_nodes_progress.specs.Runs.{order_of}
use Rattle.bfs_nodes_progress.proofs.Public.{Facts, low_there, start_facts, step_on}
use Rattle.bfs_liveness.specs.Catching.{StillKeeps}
use Rattle.bfs_liveness.specs.LawsOfCatching.{ToldSnapshotsStay}
use Rattle.bfs_liveness.proofs.Keeping.{step_stays}
use Rattle.bfs_liveness.proofs.Telling.{step_tells}

-- of each CHECKPOINT that it has sent
abbrev KeepsTold : NodeReplica → Type 0
KeepsTold r = (s : Signed Message) (c : model.Checkpoint) → IsIn s r.sent → s.message ≡ Order (Checkpoint c) → StillKeeps r.node c

module _ (laws : Below) (f : ℕ) (faulty : ℕ → Bool) (positive : 0 < f) (few : FewAreFaulty f faulty) where
  -- no step lowers a low mark
  low_rises : (w : NodeReplicas) (v : OrderReplicas) (t : World) → Facts f faulty w v t → (turn : NodeTurn) → Comes (IsAuthentic faulty w (w turn.who).node.keys) turn.step
      → (k : ℕ) → (order_of w k).low ≤ (order_of (after_node_turn w turn) k).low
  low_rises w v t facts turn comes k =
      let first = step_on laws f faulty positive few w v t facts turn comes in
      let low = (first.later k).low in
      let before = low_there f faulty w v t facts k in
      let after = low_there f faulty (after_node_turn w turn) first.orders first.world first.facts k in
      omega (arith, low, before, after)

  kept_on : (w : NodeReplicas) (v : OrderReplicas) (t : World) → Facts f faulty w v t → (turn : NodeTurn) → Comes (IsAuthentic faulty w (w turn.who).node.keys) turn.step
      → ((k : ℕ) → KeepsTold (w k)) → (k : ℕ) → KeepsTold (after_node_turn w turn k)
  kept_on w v t facts turn comes all =
      let who = turn.who in
      let node = (w who).node in
      let out = outcome node turn.step in
      let rises = low_rises w v t facts turn comes who in
      let here : (order_of (after_node_turn w turn) who).low ≡ out.now.order.low = ap (λ (r : NodeReplica). r.node.order.low) (here_after w turn) in
      let bounded = subst IsBounded (facts.right who).tracks.state (facts.right who).bounded in
      both_at w turn (λ _ r. KeepsTold r) (λ s c i e. elim (either_in out.sent (w who).sent s i) as (λ _. StillKeeps out.now c) [
        | inl new ↦ step_tells node turn.step bounded s c new e
        | inr old ↦ elim (all who s c old e) as (λ _. StillKeeps out.now c) [
          | inl above ↦ inl (omega (arith, above, rises, here))
          | inr kept ↦
              let number = kept.2 in
              elim (step_stays node turn.step kept.0 kept.1) as (λ _. StillKeeps out.now c) [ inl stays ↦ inr (kept.0, stays, kept.2, kept.3) | inr below ↦ inl (omega (arith, below, number)) ]
        ]
      ]) all

  all_kept : (w : NodeReplicas) (v : OrderReplicas) (t : World) → Facts f faulty w v t → ((k : ℕ) → KeepsTold (w k)) → (turns : List NodeTurn) → AreAuthentic faulty w turns
      → (k : ℕ) → KeepsTold (after_node_turns w turns k)
  all_kept w v t facts all [] authentic = all
  all_kept w v t facts all (turn ∷ turns) authentic =
      let first = step_on laws f faulty positive few w v t facts turn authentic.0 in
      all_kept (after_node_turn w turn) first.orders first.world first.facts (kept_on w v t facts turn authentic.0 all) turns authentic.1

pub told_snapshots_stay : Below → ToldSnapshotsStay
told_snapshots_stay laws f keys start faulty turns k s c run i e =
    all_kept laws f faulty run.others run.few (new_node_replicas f keys start) (new_order_replicas f) new_world (start_facts laws f faulty run.others run.few keys start run.shared)
    (λ k s c i e. absurd i) turns run.authentic k s c i e
