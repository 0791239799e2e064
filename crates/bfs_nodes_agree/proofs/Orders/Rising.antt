-- The low mark never falls, and entering a view leaves all else as the view is opened, but for the log.
use Rattle.std.proofs.Common.{◌≡◌, ℕ, ◌+◌, ◌<◌, ◌≤◌, ◌&&◌, true, List, [], ◌∷◌, ◌++◌, Option, Some, None, refl, sym, subst, ◌∙◌, arith}
use Rattle.std.specs.Prelude.{nat_le, nat_lt}
use Rattle.std.proofs.lemmas.Bool.{and_parts, cond_both, ltb-true}
use Rattle.bfs_auth.specs.Keys.{Keys}
use Rattle.bfs_votes.specs.Votes.{Header}
use Rattle.bfs_log.specs.Certificates.{StableCheckpoint}
use Rattle.bfs_log.specs.Headers.{header}
use Rattle.bfs_log.specs.Logs.{Log}
use Rattle.bfs_messages.specs.Messages as model
use Rattle.bfs_messages.specs.declared.signed.Signed.{Signed}
use Rattle.bfs_messages.specs.declared.order_messages.OrderMessage.{OrderMessage}
use Rattle.bfs_order.specs.Laws.Calls.{Call, Takes, Proposes, Executes, Checkpoints, Installs, Leaves, Enters, execution, outcome}
use Rattle.bfs_order.specs.Replica.Accepting.{accepted, answers, makes_stable, settled}
use Rattle.bfs_order.specs.Replica.Checkpoints.{checkpoint, checkpoint_refusal, checkpointed}
use Rattle.bfs_order.specs.Replica.Executing.{next_order}
use Rattle.bfs_order.specs.Replica.Installing.{install_refusal, installed, raised}
use Rattle.bfs_order.specs.Replica.Outcomes.{unless}
use Rattle.bfs_order.specs.Replica.Proposing.{proposal_refusal, proposed}
use Rattle.bfs_order.specs.Replica.Refusals.{is_authentic, is_between, is_inside, is_of_view, place_refusal, refusal}
use Rattle.bfs_order.specs.Replica.States.{State}
use Rattle.bfs_order.specs.Replica.Views.{all_taken_over, as_proposals, entered, entering_refusal, left, leaving_refusal, number_of, opened, taken_over}
use Rattle.bfs_order.proofs.Public.{entered_low, raised_either, raised_same}
use Rattle.bfs_model.specs.Server.Limits.{log_size, most_number}
use Rattle.bfs_nodes_agree.proofs.Orders.Results.{either_way, passed}

-- The low mark -------------------------------------------------------------------------------------------------------------

above : (s : State) (n : ℕ) → is_between s n ≡ true → s.low < n
above s n between = ltb-true s.low n (and_parts (nat_lt s.low n) (nat_le n (s.low + log_size)) between).0

taken_above : (keys : Keys) (s : State) (m : Signed OrderMessage) → refusal keys s m ≡ None → s.low < (header m).number
taken_above keys s m none =
    let h = header m in
    let a = passed (is_authentic keys s m) _ (place_refusal s h) none in
    let b = passed (is_of_view s h) _ _ a.1 in
    let c = passed (is_inside s h) _ _ b.1 in
    above s h.number (and_parts (is_between s h.number) _ c.0).0

settled_rises : (s : State) (log : Log) (h : Header) → s.low < h.number → s.low ≤ (settled (record s { log = log }) h).low
settled_rises s log h lt = cond_both (makes_stable (record s { log = log }) h) h.number s.low (λ (n : ℕ). s.low ≤ n) (λ _. omega (arith, lt)) (λ _. omega arith)

pub low_rises : (s : State) (call : Call) → s.low ≤ (outcome s call).now.low
low_rises s (Takes keys m) = either_way (λ o. s.low ≤ o.now.low) (refusal keys s m) s (accepted keys s m) (λ none. settled_rises s ((s.log ++ m ∷ []) ++ answers keys s m) (header m) (taken_above keys s m none)) (omega arith)
low_rises s (Proposes keys batch) = either_way (λ o. s.low ≤ o.now.low) (proposal_refusal s) s (proposed keys s batch) (λ _. omega arith) (omega arith)
low_rises s Executes = elim (next_order s) as (λ o. s.low ≤ (execution s o).now.low) [ None ↦ omega arith | Some m ↦ omega arith ]
low_rises s (Checkpoints keys n d) = either_way (λ o. s.low ≤ o.now.low) (checkpoint_refusal s n) s (checkpointed keys s n d)
    (λ none. settled_rises s (s.log ++ checkpoint keys s n d ∷ []) (header (checkpoint keys s n d)) (above s n (and_parts (is_between s n) (nat_le n most_number) (passed (is_between s n && nat_le n most_number) _ _ none).0).0)) (omega arith)
low_rises s (Installs keys c) = either_way (λ o. s.low ≤ o.now.low) (install_refusal keys s c) s (installed s c) (λ _. omega arith) (omega arith)
low_rises s (Leaves view) = either_way (λ o. s.low ≤ o.now.low) (leaving_refusal s view) s (left s view) (λ _. omega arith) (omega arith)
low_rises s (Enters keys view stable handed) = either_way (λ o. s.low ≤ o.now.low) (entering_refusal s view) s (entered keys s view stable handed)
    (λ _. subst (λ (n : ℕ). s.low ≤ n) (sym (entered_low keys s view stable handed)) (raised_either (λ (u : State). s.low ≤ u.low) keys s stable (λ c _ lt _. omega (arith, lt)) (omega arith))) (omega arith)

-- What stays ---------------------------------------------------------------------------------------------------------------

module _ {A : Type 0} (part : State → A) (same : (s : State) (low : ℕ) (log : Log) → part (record s { low = low; log = log }) ≡ part s) where
  over_same : (keys : Keys) (s : State) (ms : Log) → part (all_taken_over keys s ms).now ≡ part s
  over_same keys s [] = refl
  over_same keys s (m ∷ ms) = over_same keys (taken_over keys s m).now ms
      ∙ elim (place_refusal s (header m)) as (λ r. part (unless r s (accepted keys s m)).now ≡ part s) [ None ↦ same s (accepted keys s m).now.low (accepted keys s m).now.log | Some refused ↦ refl ]

  pub entered_same : (keys : Keys) (s : State) (view : ℕ) (stable : Option StableCheckpoint) (handed : List (Signed model.PrePrepare))
      → part (entered keys s view stable handed).now ≡ part (opened s view (number_of stable) handed)
  entered_same keys s view stable handed =
      over_same keys (opened (raised keys s stable) view (number_of stable) handed) (as_proposals handed)
      ∙ raised_same (λ (u : State). part (opened u view (number_of stable) handed)) keys s stable (λ low log. same (opened s view (number_of stable) handed) low log)
