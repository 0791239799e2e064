-- Who is up to a number stays so.
use Rattle.std.proofs.Common.{◌≡◌, ℕ, ◌<◌, ◌≤◌, Bool, cond, List, [], ◌∷◌, Option, Some, None, refl, sym, ap, subst, true, false, arith}
use Rattle.bfs_auth.specs.Keys.{Keys}
use Rattle.bfs_log.specs.Certificates.{StableCheckpoint}
use Rattle.bfs_log.specs.Headers.{header}
use Rattle.bfs_log.specs.Logs.{Log}
use Rattle.bfs_order.specs.Laws.Calls.{Call, Takes, Proposes, Executes, Checkpoints, Installs, Leaves, Enters, execution, outcome}
use Rattle.bfs_order.specs.Replica.Accepting.{accepted}
use Rattle.bfs_order.specs.Replica.Checkpoints.{checkpoint_refusal, checkpointed}
use Rattle.bfs_order.specs.Replica.Executing.{next_order}
use Rattle.bfs_order.specs.Replica.Installing.{certified, install_refusal, installed, raised, raises}
use Rattle.bfs_order.specs.Replica.Proposing.{proposal_refusal, proposed}
use Rattle.bfs_order.specs.Replica.Refusals.{place_refusal, refusal}
use Rattle.bfs_order.specs.Replica.States.{State}
use Rattle.bfs_order.specs.Replica.Views.{all_taken_over, as_proposals, entered, entering_refusal, leaving_refusal, left, number_of, opened}
use Rattle.bfs_agreement.specs.Histories.{World, FewAreFaulty}
use Rattle.bfs_nodes_agree.specs.Nodes.Premises.{AreAuthentic, Comes, IsAuthentic}
use Rattle.bfs_nodes_agree.specs.Nodes.Replicas.{NodeReplicas, NodeTurn, after_node_turn, after_node_turns, new_node_replicas}
use Rattle.bfs_nodes_agree.specs.Nodes.Steps.{deeds_of}
use Rattle.bfs_nodes_agree.specs.Orders.Replicas.{OrderReplicas}
use Rattle.bfs_nodes_agree.proofs.Public.{at_each, either_way, right_on, stays_kept}
use Rattle.bfs_nodes_progress.specs.CatchingUp.{IsUpTo}
use Rattle.bfs_nodes_progress.specs.Inside.Below.{Below}
use Rattle.bfs_nodes_progress.specs.LawsOfCatchingUp.{UpStaysUp}
use Rattle.bfs_nodes_progress.specs.Runs.{order_of}
use Rattle.bfs_nodes_progress.proofs.Quiet.{low_there}
use Rattle.bfs_nodes_progress.proofs.Reached.{Facts, always, run_on, step_on}
use Rattle.bfs_nodes_progress.proofs.Rounds.{after_join, authentic_parts}

-- Calls of an order ---------------------------------------------------------------------------------------------------

over_last : (keys : Keys) (s : State) (ms : Log) → (all_taken_over keys s ms).now.last ≡ s.last
over_last keys s [] = refl
over_last keys s (m ∷ ms) = either_way (λ o. (all_taken_over keys o.now ms).now.last ≡ s.last) (place_refusal s (header m)) s (accepted keys s m)
    (λ _. over_last keys (accepted keys s m).now ms) (over_last keys s ms)

raised_last : (keys : Keys) (s : State) (stable : Option StableCheckpoint) → (raised keys s stable).last ≡ s.last
raised_last keys s None = refl
raised_last keys s (Some c) = elim (raises keys s c) as (λ b. (cond b (record s { low = c.number; log = certified s.log c }) s).last ≡ s.last) [ true ↦ refl | false ↦ refl ]

-- none lowers the number last executed
last_kept : (number : ℕ) (s : State) (call : Call) → number ≤ s.last → number ≤ (outcome s call).now.last
last_kept number s (Takes keys m) h = either_way (λ o. number ≤ o.now.last) (refusal keys s m) s (accepted keys s m) (λ _. h) h
last_kept number s (Proposes keys batch) h = either_way (λ o. number ≤ o.now.last) (proposal_refusal s) s (proposed keys s batch) (λ _. h) h
last_kept number s Executes h = elim (next_order s) as (λ o. number ≤ (execution s o).now.last) [ None ↦ h | Some m ↦ omega (arith, h) ]
last_kept number s (Checkpoints keys n digest) h = either_way (λ o. number ≤ o.now.last) (checkpoint_refusal s n) s (checkpointed keys s n digest) (λ _. h) h
last_kept number s (Installs keys certificate) h = either_way (λ o. number ≤ o.now.last) (install_refusal keys s certificate) s (installed s certificate) (λ _. omega (arith, h)) h
last_kept number s (Leaves view) h = either_way (λ o. number ≤ o.now.last) (leaving_refusal s view) s (left s view) (λ _. h) h
last_kept number s (Enters keys view stable handed) h = either_way (λ o. number ≤ o.now.last) (entering_refusal s view) s (entered keys s view stable handed)
    (λ _.
    let over = over_last keys (opened (raised keys s stable) view (number_of stable) handed) (as_proposals handed) in
    let rose = raised_last keys s stable in
    omega (arith, h, over, rose))
    h

-- Runs ----------------------------------------------------------------------------------------------------------------

module _ (laws : Below) (f : ℕ) (faulty : ℕ → Bool) (positive : 0 < f) (few : FewAreFaulty f faulty) where
  last_on : (w : NodeReplicas) (v : OrderReplicas) (t : World) → Facts f faulty w v t → (turn : NodeTurn) → Comes (IsAuthentic faulty w (w turn.who).node.keys) turn.step
      → (number k : ℕ) → number ≤ (order_of w k).last → number ≤ (order_of (after_node_turn w turn) k).last
  last_on w v t facts turn comes number k le =
      let deeds = deeds_of (w turn.who).node turn.step in
      let on = at_each (λ i r o. number ≤ (v i).state.last → number ≤ o.state.last) turn w v (stays_kept (λ (s : State). number ≤ s.last) (last_kept number) deeds (v turn.who)) (λ i x. x) k in
      let before = ap (λ (s : State). s.last) (facts.right k).tracks.state in
      let after = ap (λ (s : State). s.last) (right_on laws.same laws.views laws.written laws.one f faulty w v facts.right turn comes k).tracks.state in
      let there = on (omega (arith, before, le)) in
      omega (arith, after, there)

  last_stays : (w : NodeReplicas) (v : OrderReplicas) (t : World) → Facts f faulty w v t → (turns : List NodeTurn) → AreAuthentic faulty w turns
      → (number k : ℕ) → number ≤ (order_of w k).last → number ≤ (order_of (after_node_turns w turns) k).last
  last_stays w v t facts [] authentic number k le = le
  last_stays w v t facts (turn ∷ turns) authentic number k le =
      let first = step_on laws f faulty positive few w v t facts turn authentic.0 in
      last_stays (after_node_turn w turn) first.orders first.world first.facts turns authentic.1 number k (last_on w v t facts turn authentic.0 number k le)

pub up_stays_up : Below → UpStaysUp
up_stays_up laws f keys start faulty turns further k number run up =
    let begun = new_node_replicas f keys start in
    let w = after_node_turns begun turns in
    let last = after_node_turns w further in
    let parts = authentic_parts faulty begun turns further run.authentic in
    let led = always laws f faulty run.others run.few keys start turns run.shared parts.0 in
    let rest = run_on laws f faulty run.others run.few w led.orders led.world led.facts further parts.1 in
    let low = (rest.later k).low in
    let before = low_there f faulty w led.orders led.world led.facts k in
    let after = low_there f faulty last rest.orders rest.world rest.facts k in
    let stable = up.stable in
    subst (λ (x : NodeReplicas). IsUpTo number (x k).node) (sym (after_join begun turns further)) (record {
      stable = omega (arith, low, before, after, stable);
      last = last_stays laws f faulty run.others run.few w led.orders led.world led.facts further parts.1 number k up.last;
    })
