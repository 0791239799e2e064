-- The numbers of results in order: which are strange, double or missing, and when they are just those of the jobs.
use Rattle.std.proofs.Common.{◌≡◌, ℕ, zero, suc, ◌+◌, ◌<◌, ◌≤◌, ◌↔◌, Bool, true, false, cond, not, List, [], ◌∷◌, length, map, get_or, Option, Some, None, Result, Ok, Err, MatchResult, is_ok, refl, ap, sym, subst, ◌∙◌, arith, inl, inr, ◌⊎◌, eqb-true, eq-eqb, ne_eqb, ltb-true, ltb-false, le-ltb, true≢false}
use Rattle.std.specs.Prelude.{◌==◌, ◌||◌, ⊤, nat_lt}
use Rattle.std.specs.List.{All, list_any, filter, IsAllAdjacentAnswer}
use Rattle.std.specs.List.Sorted.{IsPermutation, IsNonDecreasingBy, IsStrictlyIncreasing}
use native.Mathlib.Numerals.{unary_clauses}
use Rattle.std.proofs.lemmas.Bool.{cases_lt, not-false, true_from_ne_false, false_from_ne_true, false≢true, or_right}
use Rattle.std.proofs.lemmas.List.{get_or-map, length-map}
use Rattle.std.proofs.lemmas.List.Elements.{All-head, All-tail}
use Rattle.std.proofs.lemmas.List.Kept.{AllPairs-from_increasing}
use Rattle.std.proofs.lemmas.List.Sorted.{IsPermutation-map, list_any-IsPermutation, sum_by-IsPermutation}
use Rattle.std.proofs.lemmas.List.Sums.{length-filter}
use Rattle.bfs_model.specs.Server.Conflicts.{among}
use Rattle.bfs_model.proofs.Public.{itself_among, none_hit}
use Rattle.bfs_handover.specs.Moves.{AreDistinct}
use Rattle.bfs_handover.specs.Merging.{CompleteResultsAreTaken, numbers_in, refusal, results_of}
use Rattle.bfs_handover.specs.declared.job.Done.{Done}
use Rattle.bfs_handover.specs.declared.results.MergeError.{MergeError}
use Rattle.bfs_handover.specs.declared.results.MergeError.TheVariants.{Stranger, Double, Missing}

-- Numbers that are among others --------------------------------------------------------------------------------------------

pub by_head : (n q : ℕ) (ns : List ℕ) (X : Type 0) → (n ≡ q → X) → (among ns q ≡ true → X) → among (n ∷ ns) q ≡ true → X
by_head n q ns X here there is = by_test (n == q) refl is
  where
    by_test : (b : Bool) → (n == q) ≡ b → (b || among ns q) ≡ true → X
    by_test true e within = here (eqb-true n q e)
    by_test false e within = there within

among_at : (ns : List ℕ) (i q : ℕ) → i < length ns → get_or ns i 0 ≡ q → among ns q ≡ true
among_at [] i q lt at = absurd (omega arith)
among_at (n ∷ ns) zero q lt at = ap (λ b. b || among ns q) (eq-eqb n q at)
among_at (n ∷ ns) (suc i) q lt at = or_right (n == q) (among ns q) (among_at ns i q (omega arith) at)

place_of : (ns : List ℕ) (q : ℕ) → among ns q ≡ true → (i : ℕ) × (i < length ns) × (get_or ns i 0 ≡ q)
place_of [] q is = absurd (false≢true is)
place_of (n ∷ ns) q is =
    by_head n q ns ((i : ℕ) × (i < suc (length ns)) × (get_or (n ∷ ns) i 0 ≡ q))
    (λ here. (0, omega arith, here))
    (λ there. let further = place_of ns q there in (suc further.0, omega arith, further.2)) is

pub among_map : {X : Type 0} (f : X → ℕ) (xs : List X) (k : ℕ) (d : X) → k < length xs → among (map f xs) (f (get_or xs k d)) ≡ true
among_map f [] k d lt = absurd (omega arith)
among_map f (x ∷ xs) zero d lt = itself_among (f x) (map f xs)
among_map f (x ∷ xs) (suc k) d lt = or_right (f x == f (get_or xs k d)) (among (map f xs) (f (get_or xs k d))) (among_map f xs k d (omega arith))

any_false : (p : ℕ → Bool) (ns : List ℕ) → ((q : ℕ) → among ns q ≡ true → p q ≡ false) → list_any p ns ≡ false
any_false p [] none = refl
any_false p (n ∷ ns) none = ap (λ b. b || list_any p ns) (none n (itself_among n ns)) ∙ any_false p ns (λ q is. none q (or_right (n == q) (among ns q) is))

pub holds_among : {X : Type 0} (f : X → ℕ) (P : ℕ → Type 0) (xs : List X) → All (λ x. P (f x)) xs → (q : ℕ) → among (map f xs) q ≡ true → P q
holds_among f P [] all q is = absurd (false≢true is)
holds_among f P (x ∷ xs) all q is =
    by_head (f x) q (map f xs) (P q) (λ here. subst P here (All-head (λ y. P (f y)) x xs all)) (λ there. holds_among f P xs (All-tail (λ y. P (f y)) x xs all) q there) is

-- Numbers in order ---------------------------------------------------------------------------------------------------------

-- each is below all later ones
abbrev pub Rises : List ℕ → Type 0
Rises [] = ⊤
Rises (n ∷ ns) = ((q : ℕ) → among ns q ≡ true → n < q) × Rises ns

-- none is above a later one
abbrev pub Climbs : List ℕ → Type 0
Climbs [] = ⊤
Climbs (n ∷ ns) = ((q : ℕ) → among ns q ≡ true → n ≤ q) × Climbs ns

rises_by : (ns : List ℕ) → ((i j d : ℕ) → i < j → j < length ns → get_or ns i d < get_or ns j d) → Rises ns
rises_by [] pairs = tt
rises_by (n ∷ ns) pairs = (
  (λ q is. let at = place_of ns q is in let below : n < get_or ns at.0 0 = pairs 0 (suc at.0) 0 (omega arith) (omega arith) in omega (arith, at.2)),
  rises_by ns (λ i j d lt within. pairs (suc i) (suc j) d (omega arith) (omega arith)),
)

pub rises : (ns : List ℕ) → IsStrictlyIncreasing ns → Rises ns
rises ns up = rises_by ns (AllPairs-from_increasing ns up)

increasing : (ns : List ℕ) → Rises ns → IsStrictlyIncreasing ns
increasing [] up k lt = absurd (omega arith)
increasing (n ∷ ns) up zero lt = up.0 (get_or ns 0 0) (among_at ns 0 (get_or ns 0 0) (omega arith) refl)
increasing (n ∷ ns) up (suc k) lt = simp unary_clauses (simp unary_clauses at (increasing ns up.1 k (omega arith)))

climbs : {X : Type 0} (f : X → ℕ) (xs : List X) → IsNonDecreasingBy f xs → Climbs (map f xs)
climbs f [] sorted = tt
climbs f (x ∷ xs) sorted = (
  holds_among f (λ q. f x ≤ q) xs (λ k d lt. sorted 0 (suc k) d (omega arith) (omega arith)),
  climbs f xs (λ i j d le lt. sorted (suc i) (suc j) d (omega arith) (omega arith)),
)

pub differ : (ns : List ℕ) → Rises ns → AreDistinct ns
differ [] up = tt
differ (n ∷ ns) up = (false_from_ne_true (among ns n) (λ is. let below : n < n = up.0 n is in absurd (omega arith)), differ ns up.1)

abbrev AreAmong : List ℕ → List ℕ → Type 0
AreAmong ns ks = (q : ℕ) → among ns q ≡ true → among ks q ≡ true

least : (n : ℕ) (ns : List ℕ) → Rises (n ∷ ns) → (q : ℕ) → among (n ∷ ns) q ≡ true → n ≤ q
least n ns up q is = by_head n q ns (n ≤ q) (λ here. omega arith) (λ there. let below : n < q = up.0 q there in omega arith) is

-- numbers that rise are among others that rise: both begin alike, or the first of the others is not among them
heads : (n : ℕ) (ns : List ℕ) (k : ℕ) (ks : List ℕ) → Rises (n ∷ ns) → Rises (k ∷ ks) → AreAmong (n ∷ ns) (k ∷ ks) → ((k ≡ n) × AreAmong ns ks) ⊎ AreAmong (n ∷ ns) ks
heads n ns k ks up above within =
    by_head k n ks (((k ≡ n) × AreAmong ns ks) ⊎ AreAmong (n ∷ ns) ks)
    (λ here. inl (here, λ q is. let below : n < q = up.0 q is in by_head k q ks (among ks q ≡ true) (λ e. absurd (omega arith)) (λ there. there) (within q (or_right (n == q) (among ns q) is))))
    (λ there. inr (λ q is. let below : k < n = above.0 n there in let no_less : n ≤ q = least n ns up q is in by_head k q ks (among ks q ≡ true) (λ e. absurd (omega arith)) (λ further. further) (within q is)))
    (within n (itself_among n ns))

fewer : (ns ks : List ℕ) → Rises ns → Rises ks → AreAmong ns ks → length ns ≤ length ks
fewer [] ks up above within = omega arith
fewer (n ∷ ns) [] up above within = absurd (false≢true (within n (itself_among n ns)))
fewer (n ∷ ns) (k ∷ ks) up above within =
    elim (heads n ns k ks up above within) as (λ _. suc (length ns) ≤ suc (length ks)) [
      | inl both ↦ let rest : length ns ≤ length ks = fewer ns ks up.1 above.1 both.1 in omega arith
      | inr all ↦ let rest : suc (length ns) ≤ length ks = fewer (n ∷ ns) ks up above.1 all in omega arith
    ]

same : (ns ks : List ℕ) → Rises ns → Rises ks → AreAmong ns ks → length ks ≤ length ns → ns ≡ ks
same [] [] up above within enough = refl
same [] (k ∷ ks) up above within enough = absurd (omega arith)
same (n ∷ ns) [] up above within enough = absurd (false≢true (within n (itself_among n ns)))
same (n ∷ ns) (k ∷ ks) up above within enough =
    elim (heads n ns k ks up above within) as (λ _. n ∷ ns ≡ k ∷ ks) [
      | inl both ↦ ap (λ x. x ∷ ns) (sym both.0) ∙ ap (λ xs. k ∷ xs) (same ns ks up.1 above.1 both.1 (omega arith))
      | inr all ↦ let rest : suc (length ns) ≤ length ks = fewer (n ∷ ns) ks up above.1 all in absurd (omega arith)
    ]

-- How often a number is there ----------------------------------------------------------------------------------------------

abbrev times : List ℕ → ℕ → ℕ
times [] q = 0
times (n ∷ ns) q = cond (n == q) (suc (times ns q)) (times ns q)

no_fewer : (n : ℕ) (ns : List ℕ) (q : ℕ) → times ns q ≤ times (n ∷ ns) q
no_fewer n ns q = elim (n == q) as (λ b. times ns q ≤ cond b (suc (times ns q)) (times ns q)) [ true ↦ omega arith | false ↦ omega arith ]

once_more : (n : ℕ) (ns : List ℕ) (q : ℕ) → n ≡ q → times (n ∷ ns) q ≡ suc (times ns q)
once_more n ns q here = ap (λ b. cond b (suc (times ns q)) (times ns q)) (eq-eqb n q here)

there_once : (ns : List ℕ) (q : ℕ) → among ns q ≡ true → 1 ≤ times ns q
there_once [] q is = absurd (false≢true is)
there_once (n ∷ ns) q is =
    let rest : times ns q ≤ times (n ∷ ns) q = no_fewer n ns q in
    by_head n q ns (1 ≤ times (n ∷ ns) q) (λ here. omega (arith, once_more n ns q here)) (λ there. let once : 1 ≤ times ns q = there_once ns q there in omega arith) is

never : (ns : List ℕ) (q : ℕ) → among ns q ≡ false → times ns q ≡ 0
never [] q none = refl
never (n ∷ ns) q none = by_test (n == q) none (never ns q)
  where
    by_test : (b : Bool) → (b || among ns q) ≡ false → (among ns q ≡ false → times ns q ≡ 0) → cond b (suc (times ns q)) (times ns q) ≡ 0
    by_test true out rest = absurd (true≢false out)
    by_test false out rest = rest out

once : (ns : List ℕ) → Rises ns → (q : ℕ) → times ns q ≤ 1
once [] up q = omega arith
once (n ∷ ns) up q = by_test (n == q) refl (once ns up.1 q)
  where
    by_test : (b : Bool) → (n == q) ≡ b → times ns q ≤ 1 → cond b (suc (times ns q)) (times ns q) ≤ 1
    by_test true e rest =
        let here : n ≡ q = eqb-true n q e in
        let none : times ns q ≡ 0 = never ns q (false_from_ne_true (among ns q) (λ is. let below : n < q = up.0 q is in absurd (omega arith))) in omega arith
    by_test false e rest = rest

counted : (ns : List ℕ) (q : ℕ) → length (filter (λ n. n == q) ns) ≡ times ns q
counted [] q = refl
counted (n ∷ ns) q = by_test (n == q) (counted ns q)
  where
    by_test : (b : Bool) → length (filter (λ m. m == q) ns) ≡ times ns q → length (cond b (n ∷ filter (λ m. m == q) ns) (filter (λ m. m == q) ns)) ≡ cond b (suc (times ns q)) (times ns q)
    by_test true rest = ap suc rest
    by_test false rest = rest

times_moved : (ks ns : List ℕ) (q : ℕ) → IsPermutation ks ns → times ns q ≡ times ks q
times_moved ks ns q each =
    sym (counted ns q) ∙ length-filter (λ n. n == q) ns ∙ sum_by-IsPermutation (λ n. cond (n == q) 1 0) ks ns each ∙ sym (length-filter (λ n. n == q) ks) ∙ counted ks q

rise_once : (ns : List ℕ) → Climbs ns → ((q : ℕ) → among ns q ≡ true → times ns q ≤ 1) → Rises ns
rise_once [] up most = tt
rise_once (n ∷ ns) up most = (
  (λ q is. elim (cases_lt n q) as (λ _. n < q) [
    | inl below ↦ below
    | inr above ↦
        let le : n ≤ q = up.0 q is in
        let there : 1 ≤ times ns q = there_once ns q is in
        let all : times (n ∷ ns) q ≤ 1 = most q (or_right (n == q) (among ns q) is) in
        let twice : times (n ∷ ns) q ≡ suc (times ns q) = once_more n ns q (omega arith) in absurd (omega arith)
  ]),
  rise_once ns up.1 (λ q is. let all : times (n ∷ ns) q ≤ 1 = most q (or_right (n == q) (among ns q) is) in let rest : times ns q ≤ times (n ∷ ns) q = no_fewer n ns q in omega arith),
)

-- Refusals -----------------------------------------------------------------------------------------------------------------

abbrev strange : (ks ns : List ℕ) → Bool
strange ks ns = list_any (λ n. not (among ks n)) ns

abbrev doubled : (ks ns : List ℕ) → Bool
doubled ks ns = list_any (λ k. nat_lt 1 (times ns k)) ks

abbrev missed : (ks ns : List ℕ) → Bool
missed ks ns = list_any (λ k. times ns k == 0) ks

abbrev verdict : Bool → Bool → Bool → Option MergeError
verdict s d m = cond s (Some Stranger) (cond d (Some Double) (cond m (Some Missing) None))

any_number : (p : ℕ → Bool) (dones : List Done) → list_any (λ done. p done.number) dones ≡ list_any p (numbers_in dones)
any_number p [] = refl
any_number p (done ∷ dones) = ap (λ b. p done.number || b) (any_number p dones)

times_of : (dones : List Done) (q : ℕ) → results_of dones q ≡ times (numbers_in dones) q
times_of [] q = refl
times_of (done ∷ dones) q = by_test (done.number == q) (times_of dones q)
  where
    by_test : (b : Bool) → results_of dones q ≡ times (numbers_in dones) q → length (cond b (done ∷ filter (λ (other : Done). other.number == q) dones) (filter (λ (other : Done). other.number == q) dones)) ≡ cond b (suc (times (numbers_in dones) q)) (times (numbers_in dones) q)
    by_test true rest = ap suc rest
    by_test false rest = rest

refusal_is : (ks : List ℕ) (dones : List Done) → refusal ks dones ≡ verdict (strange ks (numbers_in dones)) (doubled ks (numbers_in dones)) (missed ks (numbers_in dones))
refusal_is ks dones = λ i. verdict (any_number (λ n. not (among ks n)) dones i) (list_any (λ k. nat_lt 1 (times_of dones k i)) ks) (list_any (λ k. times_of dones k i == 0) ks)

results_moved : (dones order : List Done) (q : ℕ) → IsPermutation dones order → results_of order q ≡ results_of dones q
results_moved dones order q each =
    times_of order q ∙ times_moved (numbers_in dones) (numbers_in order) q (IsPermutation-map (λ (done : Done). done.number) dones order each) ∙ sym (times_of dones q)

-- a refusal does not depend on the order of the results
pub refusal_moved : (ks : List ℕ) (dones order : List Done) → IsPermutation dones order → refusal ks order ≡ refusal ks dones
refusal_moved ks dones order each = λ i.
    verdict (sym (list_any-IsPermutation (λ (done : Done). not (among ks done.number)) dones order each) i) (list_any (λ k. nat_lt 1 (results_moved dones order k each i)) ks) (list_any (λ k. results_moved dones order k each i == 0) ks)

pub complete_results_are_taken : CompleteResultsAreTaken
complete_results_are_taken ks dones up each =
    let ns = numbers_in dones in
    let known : strange ks ns ≡ false = sym (list_any-IsPermutation (λ n. not (among ks n)) ks ns each) ∙ any_false (λ n. not (among ks n)) ks (λ q is. ap not is) in
    let single : doubled ks ns ≡ false =
    any_false (λ k. nat_lt 1 (times ns k)) ks (λ q is. let most : times ks q ≤ 1 = once ks (rises ks up) q in le-ltb 1 (times ns q) (omega (arith, times_moved ks ns q each))) in
    let there : missed ks ns ≡ false =
    any_false (λ k. times ns k == 0) ks (λ q is. let some : 1 ≤ times ks q = there_once ks q is in ne_eqb (times ns q) 0 (λ e. absurd (omega (arith, times_moved ks ns q each)))) in
    refusal_is ks dones ∙ (λ i. verdict (known i) (single i) (there i))

no_refusal : (s d m : Bool) → verdict s d m ≡ None → (s ≡ false) × (d ≡ false) × (m ≡ false)
no_refusal true d m none = absurd cc
no_refusal false true m none = absurd cc
no_refusal false false true none = absurd cc
no_refusal false false false none = (refl, refl, refl)

module _ (ks ns : List ℕ) where
  none_strange : strange ks ns ≡ false → AreAmong ns ks
  none_strange none q is = not-false (among ks q) (none_hit (λ n. not (among ks n)) ns none q is)

  none_doubled : doubled ks ns ≡ false → (q : ℕ) → among ks q ≡ true → times ns q ≤ 1
  none_doubled none q is = ltb-false 1 (times ns q) (none_hit (λ k. nat_lt 1 (times ns k)) ks none q is)

  none_missed : missed ks ns ≡ false → AreAmong ks ns
  none_missed none q is =
      true_from_ne_false (among ns q) (λ out. true≢false (sym (eq-eqb (times ns q) 0 (never ns q out)) ∙ none_hit (λ k. times ns k == 0) ks none q is))

  rising : Climbs ns → strange ks ns ≡ false → doubled ks ns ≡ false → Rises ns
  rising up none single = rise_once ns up (λ q is. none_doubled single q (none_strange none q is))

  not_doubled : Rises ns → doubled ks ns ≡ false
  not_doubled up = any_false (λ k. nat_lt 1 (times ns k)) ks (λ q is. le-ltb 1 (times ns q) (once ns up q))

  not_missed : AreAmong ks ns → missed ks ns ≡ false
  not_missed within = any_false (λ k. times ns k == 0) ks (λ q is. ne_eqb (times ns q) 0 (λ e. let there : 1 ≤ times ns q = there_once ns q (within q is) in absurd (omega arith)))

module _ (ks : List ℕ) (dones : List Done) (up : IsStrictlyIncreasing ks) (sorted : IsNonDecreasingBy (λ (done : Done). done.number) dones) where
  ups : Rises ks
  ups = rises ks up

  numbers_climb : Climbs (numbers_in dones)
  numbers_climb = climbs (λ (done : Done). done.number) dones sorted

  strange_is : list_any (λ done. not (among ks done.number)) dones ≡ false → strange ks (numbers_in dones) ≡ false
  strange_is none = sym (any_number (λ n. not (among ks n)) dones) ∙ none

  pub is_double : list_any (λ done. not (among ks done.number)) dones ≡ false → (IsStrictlyIncreasing (numbers_in dones) → ⊥) → Some Double ≡ refusal ks dones
  is_double none falls =
      let ns = numbers_in dones in
      let single : doubled ks ns ≡ true = true_from_ne_false (doubled ks ns) (λ no. falls (increasing ns (rising ks ns numbers_climb (strange_is none) no))) in
      sym (refusal_is ks dones ∙ ap (λ s. verdict s (doubled ks ns) (missed ks ns)) (strange_is none) ∙ ap (λ d. verdict false d (missed ks ns)) single)

  pub is_missing : list_any (λ done. not (among ks done.number)) dones ≡ false → IsStrictlyIncreasing (numbers_in dones) → length dones < length ks → Some Missing ≡ refusal ks dones
  is_missing none rise less =
      let ns = numbers_in dones in
      let long : length ns ≡ length dones = length-map dones (λ (done : Done). done.number) in
      let gap : missed ks ns ≡ true = true_from_ne_false (missed ks ns) (λ no. let enough : length ks ≤ length ns = fewer ks ns ups (rises ns rise) (none_missed ks ns no) in absurd (omega arith)) in
      sym (refusal_is ks dones ∙ ap (λ s. verdict s (doubled ks ns) (missed ks ns)) (strange_is none) ∙ ap (λ d. verdict false d (missed ks ns)) (not_doubled ks ns (rises ns rise)) ∙ ap (verdict false false) gap)

  pub is_none : list_any (λ done. not (among ks done.number)) dones ≡ false → IsStrictlyIncreasing (numbers_in dones) → length ks ≤ length dones → None ≡ refusal ks dones
  is_none none rise enough =
      let ns = numbers_in dones in
      let long : length ns ≡ length dones = length-map dones (λ (done : Done). done.number) in
      let alike : ns ≡ ks = same ns ks (rises ns rise) ups (none_strange ks ns (strange_is none)) (omega arith) in
      let within : AreAmong ks ns = λ q is. ap (λ xs. among xs q) alike ∙ is in
      sym (refusal_is ks dones ∙ ap (λ s. verdict s (doubled ks ns) (missed ks ns)) (strange_is none) ∙ ap (λ d. verdict false d (missed ks ns)) (not_doubled ks ns (rises ns rise)) ∙ ap (verdict false false) (not_missed ks ns within))

  -- results that are not refused have just these numbers
  pub numbers_are : refusal ks dones ≡ None → numbers_in dones ≡ ks
  numbers_are fine =
      let ns = numbers_in dones in
      let none = no_refusal (strange ks ns) (doubled ks ns) (missed ks ns) (sym (refusal_is ks dones) ∙ fine) in
      let rise : Rises ns = rising ks ns numbers_climb none.0 none.1 in
      same ns ks rise ups (none_strange ks ns none.0) (fewer ks ns ups rise (none_missed ks ns none.2))

-- What the tests answer ----------------------------------------------------------------------------------------------------

-- a search in numbers that rise finds what is among them
pub found_among : (ks : List ℕ) (x : ℕ) (r : Result ℕ ℕ)
    → MatchResult r (λ i. (i < length ks) × (get_or ks i 0 ≡ x)) (λ i. (i ≤ length ks) × ((k : ℕ) → k < i → get_or ks k 0 < x) × ((k : ℕ) → i ≤ k → k < length ks → x < get_or ks k 0))
    → is_ok r ≡ among ks x
found_among ks x (Ok i) at = sym (among_at ks i x at.0 at.1)
found_among ks x (Err i) out = sym (false_from_ne_true (among ks x) (λ is.
    let at = place_of ks x is in
    elim (cases_lt at.0 i) as (λ _. ⊥) [
      | inl lt ↦ let below : get_or ks at.0 0 < x = out.1 at.0 lt in absurd (omega (arith, at.2))
      | inr ge ↦ let above : x < get_or ks at.0 0 = out.2 at.0 ge at.1 in absurd (omega (arith, at.2))
    ]))

pub no_later_is_below : (ks : List ℕ) → IsStrictlyIncreasing ks → (i j : ℕ) → i ≤ j → j < length ks → get_or ks i 0 ≤ get_or ks j 0
no_later_is_below ks up i j le within =
    elim (cases_lt i j) as (λ _. get_or ks i 0 ≤ get_or ks j 0) [
      | inl lt ↦ let below : get_or ks i 0 < get_or ks j 0 = AllPairs-from_increasing ks up i j 0 lt within in omega arith
      | inr ge ↦ let here : i ≡ j = omega arith in omega (arith, ap (λ k. get_or ks k 0) here)
    ]

-- each next key is above the one before just where the keys rise
pub keys_rise : {X : Type 0} (f : X → ℕ) (xs : List X) (r : Bool) → IsAllAdjacentAnswer (λ x y b. b ≡ nat_lt (f x) (f y)) xs r → (r ≡ true) ↔ IsStrictlyIncreasing (map f xs)
keys_rise f [] true each = (λ _ k lt. absurd (omega arith), λ _. refl)
keys_rise f [] false each = absurd (omega (arith, each.1))
keys_rise f (x ∷ xs) true each = (
  (λ _ k lt.
      let long : length (map f (x ∷ xs)) ≡ length (x ∷ xs) = length-map (x ∷ xs) f in
      let one : get_or (map f (x ∷ xs)) k 0 ≡ f (get_or (x ∷ xs) k x) = get_or-map f (x ∷ xs) k x 0 (omega arith) in
      let next : get_or (map f (x ∷ xs)) (k + 1) 0 ≡ f (get_or (x ∷ xs) (k + 1) x) = get_or-map f (x ∷ xs) (k + 1) x 0 (omega arith) in
      let below : f (get_or (x ∷ xs) k x) < f (get_or (x ∷ xs) (k + 1) x) = ltb-true _ _ (sym (each k x (omega arith))) in omega arith),
  (λ _. refl),
)
keys_rise f (x ∷ xs) false each = (
  (λ e. absurd (false≢true e)),
  (λ up.
      let long : length (map f (x ∷ xs)) ≡ length (x ∷ xs) = length-map (x ∷ xs) f in
      let k = each.0 in
      let one : get_or (map f (x ∷ xs)) k 0 ≡ f (get_or (x ∷ xs) k x) = get_or-map f (x ∷ xs) k x 0 (omega (arith, each.1)) in
      let next : get_or (map f (x ∷ xs)) (k + 1) 0 ≡ f (get_or (x ∷ xs) (k + 1) x) = get_or-map f (x ∷ xs) (k + 1) x 0 (omega (arith, each.1)) in
      let below : get_or (map f (x ∷ xs)) k 0 < get_or (map f (x ∷ xs)) (k + 1) 0 = up k (omega (arith, each.1)) in
      let above : f (get_or (x ∷ xs) (k + 1) x) ≤ f (get_or (x ∷ xs) k x) = ltb-false _ _ (sym (each.2 x)) in absurd (omega arith)),
)
