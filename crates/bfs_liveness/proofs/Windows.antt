-- No next number lies more than one above the high mark.
use Rattle.std.proofs.Common.{◌≡◌, ℕ, ◌+◌, ◌<◌, ◌≤◌, Bool, ◌⊎◌, Some, None, inl, inr, refl, ap, subst, ◌∙◌, arith}
use Rattle.std.proofs.lemmas.Bool.{cases_lt}
use Rattle.bfs_log.specs.Headers.{header}
use Rattle.bfs_model.specs.Server.Limits.{log_size}
use Rattle.bfs_order.specs.Laws.Calls.{Call, Takes, Proposes, Executes, Checkpoints, Installs, Leaves, Enters, execution, outcome}
use Rattle.bfs_order.specs.Laws.Logs.{IsInWindow, IsWindowed}
use Rattle.bfs_order.specs.Replica.Accepting.{accepted}
use Rattle.bfs_order.specs.Replica.Checkpoints.{checkpoint_refusal, checkpointed}
use Rattle.bfs_order.specs.Replica.Executing.{next_order}
use Rattle.bfs_order.specs.Replica.Installing.{install_refusal, installed}
use Rattle.bfs_order.specs.Replica.Proposing.{proposal_refusal, proposed}
use Rattle.bfs_order.specs.Replica.Refusals.{refusal}
use Rattle.bfs_order.specs.Replica.States.{State, known}
use Rattle.bfs_order.specs.Replica.Views.{as_proposals, entered, entering_refusal, greatest_number, leaving_refusal, left}
use Rattle.bfs_agreement.specs.Histories.{FewAreFaulty}
use Rattle.bfs_nodes_agree.specs.Nodes.Laws.{ViewsAreEnteredWhole}
use Rattle.bfs_nodes_agree.specs.Nodes.Premises.{AreShared}
use Rattle.bfs_nodes_agree.specs.Nodes.Replicas.{Beginning, Keyring, NodeReplica, after_node_turn}
use Rattle.bfs_nodes_agree.specs.Nodes.Steps.{outcome as result}
use Rattle.bfs_nodes_agree.proofs.Public.{at_in, either_way, here_after, in_map, low_rises}
use Rattle.bfs_nodes_progress.specs.Inside.Below.{Below}
use Rattle.bfs_nodes_progress.specs.Runs.{order_of, reached}
use Rattle.bfs_nodes_progress.proofs.Public.{always, step_on}
use Rattle.bfs_liveness.specs.LawsOfWindows.{WindowsAreBounded}
use Rattle.bfs_liveness.proofs.Behind.{StepsKeep, all_orders, views_begin_behind}
use Rattle.bfs_liveness.proofs.Entering.{entered_above, greatest_in}
use Rattle.bfs_liveness.proofs.Filled.{greatest_under}
use Rattle.bfs_liveness.proofs.Settled.{among}
use Rattle.bfs_liveness.proofs.Stable.{order_keeps}

-- What was handed over ------------------------------------------------------------------------------------------------

-- none of it lies above the high mark
abbrev HandsWithin : State → Type 0
HandsWithin s = s.handed ≤ s.low + log_size

-- a call leaves it as it is, or the view is a later one
handed_stays : (s : State) (call : Call) → ((outcome s call).now.view ≡ s.view) × ((outcome s call).now.handed ≡ s.handed) ⊎ (s.view < (outcome s call).now.view)
handed_stays s (Takes keys m) = inl (either_way (λ o. (o.now.view ≡ s.view) × (o.now.handed ≡ s.handed)) (refusal keys s m) s (accepted keys s m) (λ _. (refl, refl)) (refl, refl))
handed_stays s (Proposes keys batch) = inl (either_way (λ o. (o.now.view ≡ s.view) × (o.now.handed ≡ s.handed)) (proposal_refusal s) s (proposed keys s batch) (λ _. (refl, refl)) (refl, refl))
handed_stays s Executes = inl (elim (next_order s) as (λ o. ((execution s o).now.view ≡ s.view) × ((execution s o).now.handed ≡ s.handed)) [ None ↦ (refl, refl) | Some m ↦ (refl, refl) ])
handed_stays s (Checkpoints keys n d) = inl (either_way (λ o. (o.now.view ≡ s.view) × (o.now.handed ≡ s.handed)) (checkpoint_refusal s n) s (checkpointed keys s n d) (λ _. (refl, refl)) (refl, refl))
handed_stays s (Installs keys c) = inl (either_way (λ o. (o.now.view ≡ s.view) × (o.now.handed ≡ s.handed)) (install_refusal keys s c) s (installed s c) (λ _. (refl, refl)) (refl, refl))
handed_stays s (Leaves view) = inl (either_way (λ o. (o.now.view ≡ s.view) × (o.now.handed ≡ s.handed)) (leaving_refusal s view) s (left s view) (λ _. (refl, refl)) (refl, refl))
handed_stays s (Enters keys view stable handed) =
    either_way (λ o. ((o.now.view ≡ s.view) × (o.now.handed ≡ s.handed)) ⊎ (s.view < o.now.view)) (entering_refusal s view) s (entered keys s view stable handed)
    (λ none. inr (entered_above keys s view stable handed none)) (inl (refl, refl))

-- the view is above one, or it is that one, and hands over within
abbrev HasLeft : (view : ℕ) → State → Type 0
HasLeft view s = (view ≤ s.view) × ((view < s.view) ⊎ HandsWithin s)

left_kept : (view : ℕ) (s : State) (call : Call) → HasLeft view s → HasLeft view (outcome s call).now
left_kept view s call before =
    let from = before.0 in
    let low = low_rises s call in
    elim (handed_stays s call) [
      | inl same ↦
          let view_is = same.0 in
          let handed_is = same.1 in
          (omega (arith, from, view_is), elim before.1 [ inl above ↦ inl (omega (arith, above, view_is)) | inr within ↦ inr (omega (arith, within, handed_is, low)) ])
      | inr above ↦ (omega (arith, from, above), inl (omega (arith, from, above)))
    ]

module _ (laws : Below) (whole : ViewsAreEnteredWhole) (f : ℕ) (keys : Keyring) (start : Beginning) (faulty : ℕ → Bool) (positive : 0 < f) (few : FewAreFaulty f faulty) (shared : AreShared f keys) where
  within_on : StepsKeep laws whole f keys start faulty positive few shared HandsWithin
  within_on w v t facts turn comes within =
      let who = turn.who in
      let now = (result (w who).node turn.step).now.order in
      let first = step_on laws f faulty positive few w v t facts turn comes in
      let here : order_of (after_node_turn w turn) who ≡ now = ap (λ (r : NodeReplica). r.node.order) (here_after w turn) in
      let view = (order_of w who).view in (
        λ same.
            let kept = subst (HasLeft view) here (order_keeps laws f faulty positive few w v t facts turn comes (HasLeft view) (left_kept view) who (omega arith, inr within)) in
            elim kept.1 [ inl above ↦ absurd (omega (arith, above, same)) | inr is ↦ is ],
        λ begun.
            let windowed : IsWindowed now = subst IsWindowed ((first.facts.right who).tracks.state ∙ here) (first.facts.windowed who) in
            let handed = as_proposals begun.new.proposals in
            let is = begun.handed in
            elim (cases_lt 0 (greatest_number handed)) [
              | inl some ↦
                  let top = greatest_in handed (greatest_number handed) some (omega arith) in
                  let le = top.2 in
                  elim (begun.whole.taken top.0 top.1) [
                    | inl low ↦ omega (arith, le, low, is)
                    | inr there ↦ let to = (at_in (IsInWindow now.low) (known now) windowed (header top.0) (in_map header now.log top.0 there)).to in omega (arith, le, to, is)
                  ]
              | inr none ↦ omega (arith, none, is)
            ],
      )

pub windows_are_bounded : Below → ViewsAreEnteredWhole → WindowsAreBounded
windows_are_bounded laws whole f keys start faulty turns k run =
    let s = order_of (reached f keys start turns) k in
    let led = always laws f faulty run.others run.few keys start turns run.shared run.authentic in
    let windowed : IsWindowed s = subst IsWindowed (led.facts.right k).tracks.state (led.facts.windowed k) in
    let handed = all_orders laws whole f keys start faulty run.others run.few run.shared HandsWithin (within_on laws whole f keys start faulty run.others run.few run.shared) (λ i. omega arith) turns run.authentic k in
    let behind = views_begin_behind laws whole f keys start faulty turns k run in
    let proposed = greatest_under s.view (known s) (s.low + log_size) (λ j n d told.
    let m = among s.log 2 j s.view n d told in
    let number = m.2.number in
    let to = (at_in (IsInWindow s.low) (known s) windowed (header m.0) (in_map header s.log m.0 m.1)).to in
    omega (arith, to, number)) in
    omega (arith, handed, behind, proposed)
