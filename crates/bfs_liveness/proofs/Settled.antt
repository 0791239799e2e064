-- With CHECKPOINTs of 2f + 1 replicas of one digest the low mark rises: each call keeps that.
use Rattle.std.proofs.Common.{◌≡◌, ℕ, zero, suc, ◌+◌, ◌*◌, ◌<◌, ◌≤◌, ◌==◌, max, Bool, true, false, cond, ◌&&◌, List, [], ◌∷◌, ◌++◌, ◌⊎◌, Option, Some, None, inl, inr, refl, sym, ap, subst, arith}
use Rattle.std.specs.Prelude.{nat_le, nat_lt}
use Rattle.std.specs.List.{list_all}
use Rattle.std.proofs.lemmas.Bool.{and_from, and_parts, cases_Bool, cases_lt, eq-eqb, eqb-true, le-leb, leb-true, lt-ltb, ltb-true}
use Rattle.bfs_auth.specs.Keys.{Keys}
use Rattle.bfs_log.specs.Certificates.{StableCheckpoint, checkpoints_in, is_shown, vouches}
use Rattle.bfs_log.specs.Headers.{header}
use Rattle.bfs_log.specs.Logs.{Log, headers, kept_after, stays}
use Rattle.bfs_messages.specs.Signing.{as_message}
use Rattle.bfs_messages.specs.declared.order_messages.OrderMessage.{OrderMessage}
use Rattle.bfs_messages.specs.declared.order_messages.OrderMessage.TheVariants.{PrePrepare}
use Rattle.bfs_messages.specs.declared.signed.Signed.{Signed}
use Rattle.bfs_model.specs.Server.Limits.{log_size, most_number}
use Rattle.bfs_order.specs.Laws.Calls.{Call, CallsKeepTheReplica, Takes, Proposes, Executes, Checkpoints, Installs, Leaves, Enters, execution, outcome}
use Rattle.bfs_order.specs.Replica.Accepting.{accepted, answers, makes_stable, settled}
use Rattle.bfs_order.specs.Replica.Checkpoints.{checkpoint, checkpoint_refusal, checkpointed}
use Rattle.bfs_order.specs.Replica.Executing.{next_order}
use Rattle.bfs_order.specs.Replica.Installing.{certified, install_refusal, installed, raised, raises}
use Rattle.bfs_order.specs.Replica.Outcomes as order
use Rattle.bfs_order.specs.Replica.Proposing.{proposal, proposal_commits, proposal_refusal, proposed}
use Rattle.bfs_order.specs.Replica.Refusals.{is_authentic, is_between, place_refusal, refusal}
use Rattle.bfs_order.specs.Replica.States.{State, known, with_message, with_more}
use Rattle.bfs_order.specs.Replica.Views.{all_taken_over, as_proposals, entered, entering_refusal, leaving_refusal, left, number_of, opened}
use Rattle.bfs_order.specs.declared.error.OrderError.{OrderError}
use Rattle.bfs_order.specs.declared.error.OrderError.TheVariants.{BadAuthenticator, OutsideMarks}
use Rattle.bfs_order.proofs.Public.{entered_low}
use Rattle.bfs_votes.specs.Votes.{Header, Told, count_below, is_stable, replicas, says, tellers, told}
use Rattle.bfs_votes.proofs.Public.{more}
use Rattle.bfs_agreement.specs.Histories.{IsIn}
use Rattle.bfs_agreement.proofs.Public.{Is, in_told, moved, says_is, says_itself}
use Rattle.bfs_nodes_agree.specs.Orders.Replicas.{votes_by}
use Rattle.bfs_nodes_agree.proofs.Public.{AllIn, Shows, either_in, either_way, entered_same, filter_in, in_map, log_keeps, low_rises, map_in, no_answers, none_in, out_of_map, passed, passes_at, placed, told_in, unsettled}
use Rattle.bfs_liveness.specs.LawsOfExecuting.{IsSettled, WhatIsStableIsSettled}
use Rattle.bfs_liveness.proofs.Entering.{over_are}
use Rattle.bfs_liveness.proofs.Filled.{IsAnswer, answers_are, lone_are}

-- Fewer who tell ------------------------------------------------------------------------------------------------------

stable_less : (f : ℕ) (new old : List Header) (n : ℕ) (d : List ℕ) → ((k : ℕ) → Told new 5 k 0 n d → Told old 5 k 0 n d) → is_stable f new n d ≡ true → is_stable f old n d ≡ true
stable_less f new old n d fewer is =
    let many = leb-true (2 * f + 1) (tellers f new 5 0 n d) is in
    let most = more (λ k. told new 5 k 0 n d) (λ k. told old 5 k 0 n d) (replicas f) fewer in
    le-leb (2 * f + 1) (tellers f old 5 0 n d) (omega (arith, many, most))

-- a message of a log, by what it tells
pub among : (log : Log) (t k v n : ℕ) (d : List ℕ) → Told (headers log) t k v n d → (m : Signed OrderMessage) × IsIn m log × Is (header m) t k v n d
among log t k v n d told =
    let got = told_in (headers log) t k v n d told in
    let m = out_of_map header log got.0 got.1 in
    (m.0, m.1, subst (λ (h : Header). Is h t k v n d) m.2 got.2)

tells : (log : Log) (m : Signed OrderMessage) (t k v n : ℕ) (d : List ℕ) → IsIn m log → Is (header m) t k v n d → Told (headers log) t k v n d
tells log m t k v n d i is = moved (header m) t k v n d is (λ t k v n d. Told (headers log) t k v n d) (in_told (headers log) (header m) (in_map header log m i))

-- it was there, or is no CHECKPOINT above a number
abbrev IsNothingNew : Log → (low : ℕ) → Signed OrderMessage → Type 0
IsNothingNew log low m = IsIn m log ⊎ ((header m).tag ≡ 5 → (header m).number ≤ low)

-- where a log has no new CHECKPOINTs above the low mark
settled_still : (s now : State) → now.f ≡ s.f → s.low ≤ now.low → AllIn (IsNothingNew s.log now.low) now.log → IsSettled s → IsSettled now
settled_still s now same rises old settled n d is = elim (cases_lt now.low n) [
  | inl above ↦
      let fewer : (k : ℕ) → Told (known now) 5 k 0 n d → Told (known s) 5 k 0 n d = λ k told.
      let m = among now.log 5 k 0 n d told in
      elim (old m.0 m.1) [
        | inl there ↦ tells s.log m.0 5 k 0 n d there m.2
        | inr low ↦ let le = low m.2.tag in let number = m.2.number in absurd (omega (arith, le, number, above))
      ] in
      let le = settled n d (stable_less s.f (known now) (known s) n d fewer (subst (λ (g : ℕ). is_stable g (known now) n d ≡ true) same is)) in
      omega (arith, le, rises)
  | inr le ↦ le
]

-- A CHECKPOINT more ---------------------------------------------------------------------------------------------------

-- one that is there now makes its number stable, or doesn't yet
one_settles : (s : State) (log : Log) (m : Signed OrderMessage) → (header m).tag ≡ 5 → s.low < (header m).number → ((x : Signed OrderMessage) → IsIn x log → IsIn x s.log ⊎ (x ≡ m)) → IsSettled s
    → IsSettled (settled (record s { log = log }) (header m))
one_settles s log m five above from settled =
    (elim (makes_stable s1 h) as (λ b. makes_stable s1 h ≡ b → IsSettled (record s { low = cond b h.number s.low; log = cond b (kept_after h.number h.digest log) log })) [
      | true ↦ λ makes. settled_still s (record s { low = h.number; log = kept_after h.number h.digest log }) refl (omega (arith, above))
          (filter_in (IsNothingNew s.log h.number) (λ x. stays h.number h.digest (header x)) log (λ x i. elim (from x i) [
            | inl old ↦ inl old
            | inr same ↦ let number = ap (λ (y : Signed OrderMessage). (header y).number) same in inr (λ _. omega (arith, number))
          ])) settled
      | false ↦ λ makes n d is. elim (cases_Bool (says 5 h.sender 0 n d h)) [
        | inl told ↦
            let at = says_is 5 h.sender 0 n d h told in
            let here : is_stable s.f (headers log) h.number h.digest ≡ true = subst (λ (x : ℕ). is_stable s.f (headers log) x h.digest ≡ true) (sym at.number) (subst (λ (x : List ℕ). is_stable s.f (headers log) n x ≡ true) (sym at.digest) is) in
            let yes : makes_stable s1 h ≡ true = and_from (h.tag == 5) (is_stable s.f (headers log) h.number h.digest) (eq-eqb h.tag 5 five) here in
            absurd (cc (yes, makes))
        | inr other ↦ settled n d (stable_less s.f (headers log) (known s) n d (λ k told.
            let x = among log 5 k 0 n d told in
            elim (from x.0 x.1) [
              | inl old ↦ tells s.log x.0 5 k 0 n d old x.2
              | inr same ↦
                  let at : Is h 5 k 0 n d = subst (λ (y : Signed OrderMessage). Is (header y) 5 k 0 n d) same x.2 in
                  let says_so : says 5 k 0 n d h ≡ true = moved h 5 k 0 n d at (λ t k v n d. says t k v n d h ≡ true) (says_itself h) in
                  let by : says 5 h.sender 0 n d h ≡ true = subst (λ (j : ℕ). says 5 j 0 n d h ≡ true) (sym at.sender) says_so in
                  absurd (cc (by, other))
            ]) is)
      ]
    ]) refl
  where
    h : Header
    h = header m

    s1 : State
    s1 = record s { log = log }

-- Each call -----------------------------------------------------------------------------------------------------------

answers_new : (log : Log) (low : ℕ) (ms : Log) → AllIn IsAnswer ms → AllIn (IsNothingNew log low) ms
answers_new log low ms all m i = inr (λ five. absurd (elim (all m i) [ inl three ↦ omega (arith, three, five) | inr four ↦ omega (arith, four, five) ]))

vote_new : (log : Log) (low : ℕ) (m : Signed OrderMessage) → ((header m).tag == 5) ≡ false → IsNothingNew log low m
vote_new log low m vote = inr (λ five. let yes = eq-eqb (header m).tag 5 five in absurd (cc (yes, vote)))

-- those of a certificate
shown_new : (keys : Keys) (s : State) (c : StableCheckpoint) (low : ℕ) → c.number ≤ low → is_shown keys s.f c ≡ true → AllIn (IsNothingNew s.log low) (checkpoints_in c)
shown_new keys s c low le shown m i =
    let all = (and_parts (list_all (vouches keys s.f c.number c.digest) (checkpoints_in c)) _ shown).0 in
    let told = passes_at (vouches keys s.f c.number c.digest) (checkpoints_in c) m all i in
    let number = eqb-true (header m).number c.number (and_parts ((header m).number == c.number) _ (and_parts ((header m).tag == 5) _ told).1).0 in
    inr (λ _. omega (arith, number, le))

shows_new : (keys : Keys) (s : State) (low : ℕ) (o : Option StableCheckpoint) → ((c : StableCheckpoint) → o ≡ Some c → is_shown keys s.f c ≡ true → c.number ≤ low) → Shows (IsNothingNew s.log low) s keys o
shows_new keys s low None under = tt
shows_new keys s low (Some c) under = λ shown. shown_new keys s c low (under c refl shown) shown

raised_over : (keys : Keys) (s : State) (c : StableCheckpoint) → is_shown keys s.f c ≡ true → c.number ≤ (raised keys s (Some c)).low
raised_over keys s c shown = elim (cases_lt s.low c.number) [
  | inl lt ↦
      let rises : raises keys s c ≡ true = and_from (nat_lt s.low c.number) (is_shown keys s.f c) (lt-ltb s.low c.number lt) shown in
      let low : (raised keys s (Some c)).low ≡ c.number = ap (λ (b : Bool). (cond b (record s { low = c.number; log = certified s.log c }) s).low) rises in
      omega (arith, low)
  | inr le ↦ elim (raises keys s c) as (λ b. c.number ≤ (cond b (record s { low = c.number; log = certified s.log c }) s).low) [ true ↦ omega arith | false ↦ omega (arith, le) ]
]

accepted_settled : (keys : Keys) (s : State) (m : Signed OrderMessage) → s.low < (header m).number → IsSettled s → IsSettled (accepted keys s m).now
accepted_settled keys s m above settled = elim (cases_Bool ((header m).tag == 5)) [
  | inl five ↦
      let tag = eqb-true (header m).tag 5 five in
      subst (λ (l : Log). IsSettled (Rattle.bfs_order.specs.Replica.Accepting.settled (with_more (with_message s m) l) (header m))) (sym (no_answers keys (with_message s m) (header m) tag))
      (one_settles s ((s.log ++ m ∷ []) ++ []) m tag above (λ x i. elim (either_in (s.log ++ m ∷ []) [] x i) [ inl j ↦ last x j | inr none ↦ absurd none ]) settled)
  | inr vote ↦
      let vs = answers keys s m in
      subst IsSettled (sym (unsettled (with_more (with_message s m) vs) (header m) vote))
      (settled_still s (with_more (with_message s m) vs) refl (omega arith) (λ x i. elim (either_in (s.log ++ m ∷ []) vs x i) [
        | inl j ↦ elim (last x j) [ inl old ↦ inl old | inr same ↦ subst (IsNothingNew s.log s.low) (sym same) (vote_new s.log s.low m vote) ]
        | inr j ↦ answers_new s.log s.low vs (answers_are keys (with_message s m) (header m)) x j
      ]) settled)
]
  where
    last : (x : Signed OrderMessage) → IsIn x (s.log ++ m ∷ []) → IsIn x s.log ⊎ (x ≡ m)
    last x i = elim (either_in s.log (m ∷ []) x i) [ inl j ↦ inl j | inr j ↦ elim j [ inl same ↦ inr same | inr none ↦ absurd none ] ]

call_settled : CallsKeepTheReplica → (s : State) (call : Call) → IsSettled s → IsSettled (outcome s call).now
call_settled same s (Takes keys m) settled = either_way (λ o. IsSettled o.now) (refusal keys s m) s (accepted keys s m)
    (λ none.
    let at = placed s (header m) (passed (is_authentic keys s m) BadAuthenticator (place_refusal s (header m)) none).1 in
    let above = ltb-true s.low (header m).number (and_parts (nat_lt s.low (header m).number) (nat_le (header m).number (s.low + log_size)) (and_parts (is_between s (header m).number) _ at.inside).0).0 in
    accepted_settled keys s m above settled)
    settled
call_settled same s (Proposes keys batch) settled = either_way (λ o. IsSettled o.now) (proposal_refusal s) s (proposed keys s batch)
    (λ _.
    let m = proposal keys s batch in
    let vs = proposal_commits keys s batch in
    settled_still s (proposed keys s batch).now refl (omega arith) (λ x i. elim (either_in (s.log ++ m ∷ []) vs x i) [
      | inl j ↦ elim (either_in s.log (m ∷ []) x j) [
        | inl old ↦ inl old
        | inr new ↦ elim new [ inl same ↦ subst (IsNothingNew s.log s.low) (sym same) (vote_new s.log s.low m refl) | inr none ↦ absurd none ]
      ]
      | inr j ↦ answers_new s.log s.low vs (lone_are keys s batch) x j
    ]) settled)
    settled
call_settled same s Executes settled = elim (next_order s) as (λ o. IsSettled (execution s o).now) [ None ↦ settled | Some m ↦ settled ]
call_settled same s (Checkpoints keys n d) settled = either_way (λ o. IsSettled o.now) (checkpoint_refusal s n) s (checkpointed keys s n d)
    (λ none.
    let m = checkpoint keys s n d in
    let within = (and_parts (is_between s n) (nat_le n most_number) (passed (is_between s n && nat_le n most_number) OutsideMarks _ none).0).0 in
    let above = ltb-true s.low n (and_parts (nat_lt s.low n) (nat_le n (s.low + log_size)) within).0 in
    one_settles s (s.log ++ m ∷ []) m refl above (λ x i. elim (either_in s.log (m ∷ []) x i) [ inl j ↦ inl j | inr j ↦ elim j [ inl is ↦ inr is | inr none ↦ absurd none ] ]) settled)
    settled
call_settled same s (Installs keys c) settled = either_way (λ o. IsSettled o.now) (install_refusal keys s c) s (installed s c)
    (λ none.
    let low = max s.low c.number in
    let kept = log_keeps (IsNothingNew s.log low) s (Installs keys c) (λ m i. inl i) (shown_new keys s c low (omega arith)) (none_in (IsNothingNew s.log low)) in
    settled_still s (installed s c).now refl (omega arith) (subst (λ (r : Option OrderError). AllIn (IsNothingNew s.log low) (order.unless r s (installed s c)).now.log) none kept) settled)
    settled
call_settled same s (Leaves view) settled = either_way (λ o. IsSettled o.now) (leaving_refusal s view) s (left s view) (λ _. settled) settled
call_settled same s (Enters keys view stable handed) settled = either_way (λ o. IsSettled o.now) (entering_refusal s view) s (entered keys s view stable handed)
    (λ none.
    let now = (entered keys s view stable handed).now in
    let P = IsNothingNew s.log now.low in
    let begun = opened (raised keys s stable) view (number_of stable) handed in
    let at : now.low ≡ (raised keys s stable).low = entered_low keys s view stable handed in
    let shows = shows_new keys s now.low stable (λ c is shown.
    let over = raised_over keys s c shown in
    let same_low : (raised keys s stable).low ≡ (raised keys s (Some c)).low = ap (λ (o : Option StableCheckpoint). (raised keys s o).low) is in
    omega (arith, over, same_low, at)) in
    let said : AllIn P (votes_by s (Enters keys view stable handed)) = either_way (λ o. AllIn P o.sent) (entering_refusal s view) s (entered keys s view stable handed)
    (λ _. answers_new s.log now.low (all_taken_over keys begun (as_proposals handed)).sent (over_are keys begun (as_proposals handed))) (none_in P) in
    let kept = log_keeps P s (Enters keys view stable handed) (λ m i. inl i) (map_in P (as_message PrePrepare) handed (λ x i. vote_new s.log now.low (as_message PrePrepare x) refl), shows) said in
    settled_still s now (entered_same (λ (x : State). x.f) (λ x low log. refl) keys s view stable handed)
    (subst (λ (r : Option OrderError). s.low ≤ (order.unless r s (entered keys s view stable handed)).now.low) none (low_rises s (Enters keys view stable handed)))
    (subst (λ (r : Option OrderError). AllIn P (order.unless r s (entered keys s view stable handed)).now.log) none kept) settled)
    settled

-- of nothing nobody tells
none_tells : (n k : ℕ) (d : List ℕ) → count_below (λ j. told [] 5 j 0 n d) k ≡ 0
none_tells n zero d = refl
none_tells n (suc k) d = none_tells n k d

pub what_is_stable_is_settled : CallsKeepTheReplica → WhatIsStableIsSettled
what_is_stable_is_settled same = (
  λ f me n d is. let many = leb-true (2 * f + 1) (tellers f [] 5 0 n d) is in let none = none_tells n (replicas f) d in absurd (omega (arith, many, none)),
  λ s call settled. call_settled same s call settled,
)
