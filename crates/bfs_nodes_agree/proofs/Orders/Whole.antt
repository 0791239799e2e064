-- Who enters a view takes all that is handed over above its low mark, where none of that lies above the high one.
use Rattle.std.proofs.Common.{◌≡◌, ℕ, ◌+◌, ◌<◌, ◌≤◌, ◌&&◌, Bool, true, false, cond, [], ◌∷◌, ◌++◌, Option, Some, None, ◌⊎◌, inl, inr, refl, sym, ap, subst, ◌∙◌, arith}
use Rattle.std.specs.Prelude.{nat_lt, nat_le}
use Rattle.std.specs.List.{list_all}
use Rattle.std.proofs.lemmas.Bool.{and_parts, and_from, lt-ltb, le-leb, cases_lt, ltb-true, ltb-false}
use Rattle.bfs_auth.specs.Keys.{Keys}
use Rattle.bfs_votes.specs.Votes.{Header, SlotsDiffer, is_taken}
use Rattle.bfs_log.specs.Certificates.{StableCheckpoint, checkpoints_in, is_shown, vouches}
use Rattle.bfs_log.specs.Headers.{header}
use Rattle.bfs_log.specs.Logs.{Log, headers, kept_after}
use Rattle.bfs_messages.specs.declared.signed.Signed.{Signed}
use Rattle.bfs_messages.specs.declared.order_messages.OrderMessage.{OrderMessage}
use Rattle.bfs_order.specs.declared.error.OrderError.{OrderError}
use Rattle.bfs_order.specs.Replica.Accepting.{accepted}
use Rattle.bfs_order.specs.Replica.Answers.{votes_in}
use Rattle.bfs_order.specs.Replica.Installing.{certified, raised}
use Rattle.bfs_order.specs.Replica.Outcomes.{Outcome, unless}
use Rattle.bfs_order.specs.Replica.Refusals.{is_between, place_refusal}
use Rattle.bfs_order.specs.Replica.States.{State, known, with_message, with_more}
use Rattle.bfs_order.specs.Replica.Views.{all_taken_over, number_of, taken_over}
use Rattle.bfs_order.proofs.Public.{raised_either}
use Rattle.bfs_agreement.specs.Histories.{IsIn}
use Rattle.bfs_agreement.specs.Moves.{kept_above}
use Rattle.bfs_nodes_agree.proofs.Orders.Dropping.{dropped, each_five, in_kept}
use Rattle.bfs_nodes_agree.proofs.Orders.Entering.{IsHanded, beyond_refused, differs, later_free, none_refused, still_free, taken}
use Rattle.bfs_nodes_agree.proofs.Orders.Lists.{left_in, right_in}
use Rattle.bfs_nodes_agree.proofs.Orders.Telling.{slot_same}

-- What is handed over -----------------------------------------------------------------------------------------------------

-- what stands in the log stays
stays : (keys : Keys) (s : State) (ms : Log) → ((x : Header) → IsIn x (headers ms) → x.tag ≡ 2) → (m : Signed OrderMessage) → IsIn m s.log → IsIn m (all_taken_over keys s ms).now.log
stays keys s [] two m i = i
stays keys s (p ∷ ps) two m i =
    let h = header p in
    let one = with_message s p in
    let vs = votes_in keys one h.view h.number h.digest in
    let there = left_in (s.log ++ p ∷ []) vs m (left_in s.log (p ∷ []) m i) in
    (elim (place_refusal s h) as (λ (o : Option OrderError). place_refusal s h ≡ o → IsIn m (all_taken_over keys (taken_over keys s p).now ps).now.log) [
      | None ↦ λ none. subst (λ (out : Outcome). IsIn m (all_taken_over keys out.now ps).now.log) (sym (taken keys s p (two h (inl refl)) none)) (stays keys (with_more one vs) ps (λ x j. two x (inr j)) m there)
      | Some e ↦ λ is. subst (λ (o : Option OrderError). IsIn m (all_taken_over keys (unless o s (accepted keys s p)).now ps).now.log) (sym is) (stays keys s ps (λ x j. two x (inr j)) m i)
    ]) refl

-- it is not above the high mark
not_above : (s : State) (n : ℕ) → is_between s n ≡ false → n ≤ s.low + 32 → n ≤ s.low
not_above s n beyond high = elim (cases_lt s.low n) [
  | inl lt ↦ let both = and_from (nat_lt s.low n) (nat_le n (s.low + 32)) (lt-ltb s.low n lt) (le-leb n (s.low + 32) high) in absurd (cc (both, beyond))
  | inr le ↦ le
]

pub all_in : (keys : Keys) (s : State) (ms : Log) → s.asked ≤ s.view → ((x : Header) → IsIn x (headers ms) → IsHanded s.f s.view s.min_s x) → ((x : Header) → IsIn x (headers ms) → x.number ≤ s.low + 32)
    → ((x : Header) → IsIn x (headers ms) → is_taken (known s) x ≡ false) → SlotsDiffer (headers ms)
    → (m : Signed OrderMessage) → IsIn m ms → ((header m).number ≤ s.low) ⊎ IsIn m (all_taken_over keys s ms).now.log
all_in keys s [] asked handed high free differ m i = absurd i
all_in keys s (p ∷ ps) asked handed high free differ m i =
    let h = header p in
    let one = with_message s p in
    let vs = votes_in keys one h.view h.number h.digest in
    let then = with_more one vs in
    let mine = handed h (inl refl) in
    (elim (is_between s h.number) as (λ (b : Bool). is_between s h.number ≡ b → ((header m).number ≤ s.low) ⊎ IsIn m (all_taken_over keys (taken_over keys s p).now ps).now.log) [
      | true ↦ λ marks.
          let is = taken keys s p mine.two (none_refused s h mine asked marks (free h (inl refl))) in
          subst (λ (out : Outcome). ((header m).number ≤ s.low) ⊎ IsIn m (all_taken_over keys out.now ps).now.log) (sym is) (elim i [
            | inl same ↦ inr (stays keys then ps (λ x j. (handed x (inr j)).two) m (left_in (s.log ++ p ∷ []) vs m (right_in s.log (p ∷ []) m (inl same))))
            | inr j ↦ all_in keys then ps asked (λ x k. handed x (inr k)) (λ x k. high x (inr k)) (λ x k. still_free keys s p x (handed x (inr k)).two (free x (inr k)) (differs (headers ps) h x differ.0 k)) differ.1 m j
          ])
      | false ↦ λ beyond.
          subst (λ (o : Option OrderError). ((header m).number ≤ s.low) ⊎ IsIn m (all_taken_over keys (unless o s (accepted keys s p)).now ps).now.log) (sym (beyond_refused s h mine asked beyond)) (elim i [
            | inl same ↦ let le = not_above s h.number beyond (high h (inl refl)) in let at : (header m).number ≡ h.number = ap (λ (x : Signed OrderMessage). (header x).number) same in inl (omega (arith, le, at))
            | inr j ↦ all_in keys s ps asked (λ x k. handed x (inr k)) (λ x k. high x (inr k)) (λ x k. free x (inr k)) differ.1 m j
          ])
    ]) refl

-- The low mark -------------------------------------------------------------------------------------------------------------

-- it rises to a checkpoint that is shown, or is there already
pub raised_low : (keys : Keys) (s : State) (stable : Option StableCheckpoint) → ((c : StableCheckpoint) → stable ≡ Some c → (is_shown keys s.f c ≡ true) ⊎ (c.number ≤ s.low)) → number_of stable ≤ (raised keys s stable).low
raised_low keys s None shown = omega arith
raised_low keys s (Some c) shown =
    let n = c.number in
    let risen : State = record s { low = n; log = certified s.log c } in
    (elim (nat_lt s.low n) as (λ (b : Bool). nat_lt s.low n ≡ b → n ≤ (cond (b && is_shown keys s.f c) risen s).low) [
      | true ↦ λ is. elim (shown c refl) [
        | inl shows ↦ subst (λ (b : Bool). n ≤ (cond b risen s).low) (sym shows) (omega arith)
        | inr there ↦ let lt = ltb-true s.low n is in absurd (omega (arith, lt, there))
      ]
      | false ↦ λ is. ltb-false s.low n is
    ]) refl

-- a PRE-PREPARE of a later view has a free place
pub raised_free : (keys : Keys) (s : State) (stable : Option StableCheckpoint) → ((y : Header) → IsIn y (known s) → y.view ≤ s.view) → (x : Header) → x.tag ≡ 2 → s.view < x.view → is_taken (known (raised keys s stable)) x ≡ false
raised_free keys s stable views x two later =
    let small : x.tag < 5 = omega (arith, two) in
    raised_either (λ (u : State). is_taken (known u) x ≡ false) keys s stable
    (λ c _ _ shown.
    let n = c.number in
    let all = (and_parts (list_all (vouches keys s.f n c.digest) (checkpoints_in c)) _ shown).0 in
    let same = each_five keys s.f n c.digest (kept_after n c.digest s.log) (checkpoints_in c) (kept_above n (known s)) all (dropped n c.digest s.log (known s) (λ test votes. refl)) in
    slot_same (headers (certified s.log c)) (kept_above n (known s)) same x.tag x.sender x.view x.number small
    ∙ later_free (kept_above n (known s)) x (λ y i. let le = views y (in_kept n (known s) y i) in omega (arith, le, later)))
    (later_free (known s) x (λ y i. let le = views y i in omega (arith, le, later)))
