-- The CHECKPOINTs of members come to one of them.
use Rattle.std.proofs.Common.{◌≡◌, ℕ, zero, suc, ◌+◌, ◌%◌, ◌<◌, ◌≤◌, ◌==◌, Bool, true, false, cond, ◌&&◌, not, List, [], ◌∷◌, ◌++◌, Option, Some, None, option_map, inl, inr, refl, sym, ap, ap₂, subst, ◌∙◌, arith}
use Rattle.std.specs.Prelude.{nat_lt, option_to_list}
use Rattle.std.specs.List.{range_with_len}
use Rattle.std.proofs.lemmas.Bool.{and_from, and_parts, cases_Bool, cases_lt, lt-ltb}
use Rattle.bfs_auth.specs.Keys.{Keys}
use Rattle.bfs_log.specs.Headers.{header}
use Rattle.bfs_log.specs.Logs.{as_messages}
use Rattle.bfs_messages.specs.Signing.{as_message, carried_are_signed, order_is_signed}
use Rattle.bfs_messages.specs.declared.message.Message.TheVariants.{Order}
use Rattle.bfs_messages.specs.declared.order_messages.OrderMessage.{OrderMessage}
use Rattle.bfs_messages.specs.declared.signed.Signed.{Signed}
use Rattle.bfs_model.specs.Server.Limits.{checkpoint_interval, log_size}
use Rattle.bfs_order.specs.Replica.Accepting.{on_message}
use Rattle.bfs_order.specs.Replica.Refusals.{refusal}
use Rattle.bfs_order.specs.Replica.Resending as order
use Rattle.bfs_order.specs.Replica.Resending.{are_together, own_answers, own_message, resent_of}
use Rattle.bfs_order.specs.Replica.States.{State, known}
use Rattle.bfs_order.specs.declared.resending.Lag.{Lag}
use Rattle.bfs_votes.specs.Votes.{has_slot, replicas}
use Rattle.bfs_agreement.specs.Histories.{IsIn}
use Rattle.bfs_agreement.proofs.Public.{Is}
use Rattle.bfs_node.specs.Delivering.{delivered}
use Rattle.bfs_node.specs.Errors.{of_order}
use Rattle.bfs_node.specs.Nodes.{Node}
use Rattle.bfs_node.specs.Resending.{change_resent, new_view_resent, resent}
use Rattle.bfs_nodes_agree.specs.Nodes.Replicas.{NodeReplica, NodeReplicas, NodeTurn, after_node_step, after_node_turn, after_node_turns}
use Rattle.bfs_nodes_agree.specs.Nodes.Steps.{Takes, outcome, unless}
use Rattle.bfs_nodes_agree.proofs.Public.{here_after, in_map, right_in}
use Rattle.bfs_nodes_progress.specs.Following.{each_takes}
use Rattle.bfs_nodes_progress.specs.Rounds.{passes}
use Rattle.bfs_nodes_progress.specs.Runs.{order_of}
use Rattle.bfs_nodes_progress.proofs.Public.{brings_order, own_found}
use Rattle.bfs_liveness.specs.Exchanges.{taking}
use Rattle.bfs_liveness.specs.Ways.{Gives, IsWay}
use Rattle.bfs_liveness.proofs.Lists.{in_all, in_run, in_where}
use Rattle.bfs_liveness.proofs.Told.{HasTaken, IsToldBy, both_taken, nothing_taken, takes_it}

-- it is given again to one that tells that nothing is stable there
checkpoint_given : (node : Node) (n : ℕ) (m : Signed OrderMessage) → 0 < n → node.order.low ≤ n → n ≤ node.order.low + log_size → IsIn m (own_message node.order 5 0 n) → (to : Lag) × IsIn (as_message Order m) (resent node to)
checkpoint_given node n m some low high i =
    let s = node.order in
    let to : Lag = record { view = 0; last = 0; stable = 0 } in
    let first = cond (are_together s to && nat_lt to.last n) (own_message s 2 s.view n) [] in
    let second = cond (are_together s to && nat_lt to.stable n) (own_answers s n) [] in
    let third = cond (nat_lt to.stable n) (own_message s 5 0 n) [] in
    let of_number : IsIn m (resent_of s to n) = right_in first (second ++ third) m (right_in second third m (in_where (nat_lt to.stable n) (own_message s 5 0 n) m (lt-ltb 0 n some) i)) in
    let given : IsIn m (order.resent s to) = in_all (resent_of s to) (range_with_len s.low (log_size + 1)) n m (in_run s.low (log_size + 1) n low (omega (arith, high))) of_number in (
      to,
      right_in (change_resent node) (new_view_resent node to ++ as_messages (order.resent s to)) (as_message Order m)
          (right_in (new_view_resent node to) (as_messages (order.resent s to)) (as_message Order m) (in_map (as_message Order) (order.resent s to) m given)),
    )

-- a message of the order changes neither keys nor files
rests : (node : Node) (m : Signed OrderMessage) → ((outcome node (Takes (as_message Order m))).now.keys ≡ node.keys) × ((outcome node (Takes (as_message Order m))).now.files ≡ node.files)
rests node m = elim (refusal node.keys node.order m) as
    (λ r. ((unless (option_map of_order r) node (delivered node (as_message Order m))).now.keys ≡ node.keys) × ((unless (option_map of_order r) node (delivered node (as_message Order m))).now.files ≡ node.files)) [
      | None ↦ (refl, refl)
      | Some e ↦ (refl, refl)
    ]

-- what passes by the keys of a node passes by the same keys later
passes_yet : (one other : Node) (m : Signed OrderMessage) → other.keys ≡ one.keys → other.order.f ≡ one.order.f → passes one m ≡ true → passes other m ≡ true
passes_yet one other m keys same passing =
    ap₂ (λ (f : ℕ) (k : Keys). nat_lt (header m).sender (replicas f) && (order_is_signed k m && carried_are_signed k m.message)) same keys ∙ passing

not_so : (b : Bool) → not b ≡ true → b ≡ false
not_so true e = absurd cc
not_so false e = refl

-- One hears ---------------------------------------------------------------------------------------------------------------

module _ (members : ℕ → Bool) (number p : ℕ) (w : NodeReplicas) where
  -- it has taken CHECKPOINTs of the number, and no other one has done anything
  pub record IsHearing (now : NodeReplicas) : Type 0 where
    pub others : (i : ℕ) → (i == p) ≡ false → now i ≡ w i
    pub taken : HasTaken number (order_of w p) (order_of now p)
    pub keys : (now p).node.keys ≡ (w p).node.keys
    pub files : (now p).node.files ≡ (w p).node.files

  pub hearing_nothing : IsHearing w
  hearing_nothing = record { others = λ i other. refl; taken = nothing_taken number (order_of w p); keys = refl; files = refl }

  -- by turns of its own it has heard each member below a bound
  pub record HasHeardAll (now : NodeReplicas) (turns : List NodeTurn) (bound : ℕ) : Type 0 where
    pub way : IsWay members now turns
    pub hearing : IsHearing (after_node_turns now turns)
    pub since : HasTaken number (order_of now p) (order_of (after_node_turns now turns) p)
    pub told : (k : ℕ) → k < bound → members k ≡ true → (k == p) ≡ false → IsToldBy number (order_of (after_node_turns now turns) p) k

  abbrev turn_of : Signed OrderMessage → NodeTurn
  turn_of m = record { who = p; step = Takes (as_message Order m) }

  module _ (multiple : (number % checkpoint_interval) ≡ 0) (under : number ≤ (order_of w p).low + log_size) where
    hears : (now : NodeReplicas) → IsHearing now → (m : Signed OrderMessage) (k : ℕ) (d : List ℕ) → passes (w p).node m ≡ true → Is (header m) 5 k 0 number d
        → IsHearing (after_node_turn now (turn_of m)) × HasTaken number (order_of now p) (order_of (after_node_turn now (turn_of m)) p) × IsToldBy number (order_of (after_node_turn now (turn_of m)) p) k
    hears now hearing m k d passing is =
        let node = (now p).node in
        let s = node.order in
        let next = after_node_turn now (turn_of m) in
        let at : next p ≡ after_node_step (now p) (Takes (as_message Order m)) = here_after now (turn_of m) in
        let order_is : order_of next p ≡ (on_message node.keys s m).now = ap (λ (r : NodeReplica). r.node.order) at ∙ brings_order node (Takes (as_message Order m)) m refl in
        let passes_now = passes_yet (w p).node node m hearing.keys hearing.taken.f passing in
        let bound : number ≤ s.low + log_size = elim hearing.taken.low [ inl same ↦ omega (arith, same, under) | inr risen ↦ omega (arith, risen) ] in
        let got = takes_it node.keys s m number k d passes_now is multiple bound in
        let step = subst (HasTaken number s) (sym order_is) got.0 in (
          record {
            others = λ i other. ap (λ (b : Bool). cond b (after_node_step (now p) (Takes (as_message Order m))) (now i)) other ∙ hearing.others i other;
            taken = both_taken number (order_of w p) s (order_of next p) hearing.taken step;
            keys = ap (λ (r : NodeReplica). r.node.keys) at ∙ (rests node m).0 ∙ hearing.keys;
            files = ap (λ (r : NodeReplica). r.node.files) at ∙ (rests node m).1 ∙ hearing.files;
          },
          step,
          subst (λ (x : State). IsToldBy number x k) (sym order_is) got.1,
        )

    -- what stands in a member's log comes
    module _ (in_p : members p ≡ true) (some : 0 < number) (has : (k : ℕ) → members k ≡ true → has_slot (known (order_of w k)) 5 (order_of w k).me 0 number ≡ true)
        (names : (k : ℕ) → (order_of w k).me ≡ k) (lows : (k : ℕ) → members k ≡ true → ((order_of w k).low ≤ number) × (number ≤ (order_of w k).low + log_size))
        (passing : (k : ℕ) (m : Signed OrderMessage) → members k ≡ true → IsIn m (order_of w k).log → (header m).sender ≡ k → passes (w p).node m ≡ true) where
      abbrev of_one : ℕ → List NodeTurn
      of_one k = cond (members k && not (k == p)) (taking p (own_message (order_of w k) 5 0 number)) []

      -- where it was told before it is yet
      told_yet : (s t : State) → HasTaken number s t → (k : ℕ) → IsToldBy number s k → IsToldBy number t k
      told_yet s t taken k told = elim told [
        | inl low ↦ inl (elim taken.low [ inl same ↦ omega (arith, same, low) | inr risen ↦ omega (arith, risen) ])
        | inr slot ↦ taken.keeps k slot
      ]

      pub all_heard : (bound : ℕ) (now : NodeReplicas) → IsHearing now → HasHeardAll now (each_takes of_one bound) bound
      all_heard zero now hearing = record { way = tt; hearing = hearing; since = nothing_taken number (order_of now p); told = λ k lt _ _. absurd (omega (arith, lt)) }
      all_heard (suc b) now hearing = elim (cases_Bool (members b && not (b == p))) [
        | inl so ↦
            let s = order_of w b in
            let both = and_parts (members b) (not (b == p)) so in
            let other = not_so (b == p) both.1 in
            let got = own_found s 5 0 number (has b both.0) in
            let m = got.0 in
            let is : Is (header m) 5 b 0 number (header m).digest = subst (λ (j : ℕ). Is (header m) 5 j 0 number (header m).digest) (names b) got.1.is in
            let turns_is : of_one b ≡ turn_of m ∷ [] =
            ap (λ (c : Bool). cond c (taking p (own_message s 5 0 number)) []) so ∙ ap (λ (o : Option (Signed OrderMessage)). taking p (option_to_list o)) got.1.first in
            let first = hears now hearing m b (header m).digest (passing b m both.0 got.1.there is.sender) is in
            let next = after_node_turn now (turn_of m) in
            let rest = all_heard b next first.0 in
            let end = order_of (after_node_turns next (each_takes of_one b)) p in
            let given = checkpoint_given (w b).node number m some (lows b both.0).0 (lows b both.0).1 got.1.given in
            let gives : Gives (now b) (as_message Order m) = subst (λ (r : NodeReplica). Gives r (as_message Order m)) (sym (hearing.others b other)) (inr (given.0, given.1)) in
            subst (λ (xs : List NodeTurn). HasHeardAll now (xs ++ each_takes of_one b) (suc b)) (sym turns_is) (record {
              way = (in_p, (b, both.0, gives), rest.way);
              hearing = rest.hearing;
              since = both_taken number (order_of now p) (order_of next p) end first.1 rest.since;
              told = λ k lt in_k apart. elim (cases_lt k b) [
                | inl less ↦ rest.told k less in_k apart
                | inr le ↦ let same : b ≡ k = omega (arith, lt, le) in subst (λ (j : ℕ). IsToldBy number end j) same (told_yet (order_of next p) end rest.since b first.2)
              ];
            })
        | inr none ↦
            let rest = all_heard b now hearing in
            let turns_is : of_one b ≡ [] = ap (λ (c : Bool). cond c (taking p (own_message (order_of w b) 5 0 number)) []) none in
            subst (λ (xs : List NodeTurn). HasHeardAll now (xs ++ each_takes of_one b) (suc b)) (sym turns_is) (record {
              way = rest.way;
              hearing = rest.hearing;
              since = rest.since;
              told = λ k lt in_k apart. elim (cases_lt k b) [
                | inl less ↦ rest.told k less in_k apart
                | inr le ↦
                    let same : k ≡ b = omega (arith, lt, le) in
                    let so : (members b && not (b == p)) ≡ true = subst (λ (j : ℕ). (members j && not (j == p)) ≡ true) same (and_from (members k) (not (k == p)) in_k (ap not apart)) in
                    absurd (cc (so, none))
              ];
            })
      ]
