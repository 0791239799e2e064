-- The view asked for is below 2^63 after all calls of an order, and so it may be entered.
use Rattle.std.proofs.Common.{◌≡◌, ◌<◌, ℕ, true, arith, ◌&&◌, [], ◌∷◌, Some, None}
use Rattle.std.specs.Prelude.{max, nat_lt, nat_le}
use Rattle.std.proofs.lemmas.Bool.{and_parts, ltb-true}
use Rattle.bfs_auth.specs.Keys.{Keys}
use Rattle.bfs_log.specs.Headers.{header}
use Rattle.bfs_log.specs.Logs.{Log}
use Rattle.bfs_order.specs.Laws.Calls.{Call, Takes, Proposes, Executes, Checkpoints, Installs, Leaves, Enters, outcome, execution}
use Rattle.bfs_order.specs.Replica.Accepting.{accepted}
use Rattle.bfs_order.specs.Replica.Checkpoints.{checkpoint_refusal, checkpointed}
use Rattle.bfs_order.specs.Replica.Executing.{next_order}
use Rattle.bfs_order.specs.Replica.Installing.{install_refusal, installed, raised}
use Rattle.bfs_order.specs.Replica.Proposing.{proposal_refusal, proposed}
use Rattle.bfs_order.specs.Replica.Refusals.{place_refusal, refusal}
use Rattle.bfs_order.specs.Replica.States.{State}
use Rattle.bfs_order.specs.Replica.Views.{leaving_refusal, left, as_proposals, entering_refusal, number_of, opened, taken_over, all_taken_over, entered}
use Rattle.bfs_model.specs.Server.Limits.{most_number}
use Rattle.bfs_nodes_agree.proofs.Orders.Results.{either_way, passed}

abbrev pub IsBounded : State → Type 0
IsBounded s = nat_le s.asked most_number ≡ true

over : (keys : Keys) (proposals : Log) (s : State) → IsBounded s → IsBounded (all_taken_over keys s proposals).now
over keys [] s h = h
over keys (m ∷ ms) s h = over keys ms (taken_over keys s m).now (either_way (λ o. IsBounded o.now) (place_refusal s (header m)) s (accepted keys s m) (λ _. h) h)

pub left_bounded : (s : State) (view : ℕ) → leaving_refusal s view ≡ None → nat_le view most_number ≡ true
left_bounded s view e = (and_parts (nat_lt (max s.view s.asked) view) (nat_le view most_number) (passed _ _ None e).0).1

-- it is a later view
pub left_later : (s : State) (view : ℕ) → leaving_refusal s view ≡ None → s.view < view
left_later s view e =
    let above = ltb-true (max s.view s.asked) view (and_parts (nat_lt (max s.view s.asked) view) (nat_le view most_number) (passed _ _ None e).0).0 in
    omega arith

pub kept : (s : State) (call : Call) → IsBounded s → IsBounded (outcome s call).now
kept s (Takes keys m) h = either_way (λ o. IsBounded o.now) (refusal keys s m) s (accepted keys s m) (λ _. h) h
kept s (Proposes keys batch) h = either_way (λ o. IsBounded o.now) (proposal_refusal s) s (proposed keys s batch) (λ _. h) h
kept s Executes h = elim (next_order s) as (λ o. IsBounded (execution s o).now) [ None ↦ h | Some m ↦ h ]
kept s (Checkpoints keys number digest) h = either_way (λ o. IsBounded o.now) (checkpoint_refusal s number) s (checkpointed keys s number digest) (λ _. h) h
kept s (Installs keys certificate) h = either_way (λ o. IsBounded o.now) (install_refusal keys s certificate) s (installed s certificate) (λ _. h) h
kept s (Leaves view) h = either_way (λ o. IsBounded o.now) (leaving_refusal s view) s (left s view) (left_bounded s view) h
kept s (Enters keys view stable handed) h = either_way (λ o. IsBounded o.now) (entering_refusal s view) s (entered keys s view stable handed)
    (λ e.
    let a = and_parts (nat_lt s.view view) (nat_le s.asked view && nat_le view most_number) (passed _ _ None e).0 in
    over keys (as_proposals handed) (opened (raised keys s stable) view (number_of stable) handed) (and_parts (nat_le s.asked view) (nat_le view most_number) a.1).1)
    h
