-- The least view that replicas ask for, and how many ask.
use Rattle.std.proofs.Common.{◌≡◌, ℕ, zero, suc, ◌+◌, ◌<◌, ◌≤◌, Bool, true, false, cond, List, [], ◌∷◌, length, get_or, Option, Some, None, inl, inr, refl, ap, ◌∙◌, arith}
use Rattle.std.specs.Prelude.{filter, fold, min, nat_le, nat_lt}
use Rattle.std.proofs.lemmas.Bool.{cases_Bool, cond_both, leb-true, le-leb, lt-ltb, ltb-true}
use Rattle.bfs_votes.specs.Votes.{count_below}
use Rattle.bfs_votes.proofs.Public.{none_below}
use Rattle.bfs_agreement.specs.Histories.{IsIn}
use Rattle.bfs_view_change.specs.Changes.Keeping.{least_of}

-- the views above one
abbrev pub above : List ℕ → (view : ℕ) → List ℕ
above asked view = filter (nat_lt view) asked

-- the least of them, where they are so many
abbrev pub least_of_enough : List ℕ → (view count : ℕ) → Option ℕ
least_of_enough asked view count = cond (nat_le count (length (above asked view))) (least_of (above asked view)) None

-- The least ---------------------------------------------------------------------------------------------------------------

fold_least : (a : ℕ) (xs : List ℕ) → fold min a xs ≤ a
fold_least a [] = omega arith
fold_least a (x ∷ xs) = let le = fold_least (min a x) xs in omega (arith, le)

fold_each : (a : ℕ) (xs : List ℕ) (x : ℕ) → IsIn x xs → fold min a xs ≤ x
fold_each a [] x i = absurd i
fold_each a (y ∷ xs) x i = elim i [
  | inl e ↦ let le = fold_least (min a y) xs in omega (arith, le, e)
  | inr j ↦ fold_each (min a y) xs x j
]

-- it is above what all are above
fold_above : (own a : ℕ) (xs : List ℕ) → own < a → ((x : ℕ) → IsIn x xs → own < x) → own < fold min a xs
fold_above own a [] lt all = lt
fold_above own a (y ∷ xs) lt all = let here = all y (inl refl) in fold_above own (min a y) xs (omega (arith, lt, here)) (λ x i. all x (inr i))

some_of : (a b : ℕ) → Some a ≡ Some b → a ≡ b
some_of a b e = cc

least_each : (xs : List ℕ) (u : ℕ) → least_of xs ≡ Some u → (x : ℕ) → IsIn x xs → u ≤ x
least_each [] u e x i = absurd i
least_each (y ∷ xs) u e x i =
    let is = some_of (fold min y xs) u e in
    elim i [
      | inl same ↦ let le = fold_least y xs in omega (arith, is, same, le)
      | inr j ↦ let le = fold_each y xs x j in omega (arith, is, le)
    ]

least_above : (own : ℕ) (xs : List ℕ) (u : ℕ) → least_of xs ≡ Some u → ((x : ℕ) → IsIn x xs → own < x) → own < u
least_above own [] u e all = absurd cc
least_above own (y ∷ xs) u e all =
    let is = some_of (fold min y xs) u e in
    let lt = fold_above own y xs (all y (inl refl)) (λ x i. all x (inr i)) in
    omega (arith, is, lt)

is_least : (xs : List ℕ) → 0 < length xs → (u : ℕ) × (least_of xs ≡ Some u)
is_least [] some = absurd (omega (arith, some))
is_least (y ∷ xs) some = (fold min y xs, refl)

-- What passes a test ------------------------------------------------------------------------------------------------------

module _ (p : ℕ → Bool) where
  filtered : (xs : List ℕ) (x : ℕ) → IsIn x (filter p xs) → p x ≡ true
  filtered [] x i = absurd i
  filtered (y ∷ xs) x i =
      cond_both (p y) (y ∷ filter p xs) (filter p xs) (λ (zs : List ℕ). IsIn x zs → p x ≡ true)
      (λ passes j. elim j [ inl e ↦ ap p e ∙ passes | inr k ↦ filtered xs x k ]) (λ _ j. filtered xs x j) i

  into_filter : (xs : List ℕ) (x : ℕ) → IsIn x xs → p x ≡ true → IsIn x (filter p xs)
  into_filter [] x i passes = absurd i
  into_filter (y ∷ xs) x i passes =
      cond_both (p y) (y ∷ filter p xs) (filter p xs) (λ (zs : List ℕ). IsIn x zs)
      (λ _. elim i [ inl e ↦ inl e | inr j ↦ inr (into_filter xs x j passes) ])
      (λ fails. elim i [ inl e ↦ absurd (cc (fails, passes, ap p e)) | inr j ↦ into_filter xs x j passes ])

-- what stands at a place, or 0
in_place : (xs : List ℕ) (k : ℕ) → 0 < get_or xs k 0 → IsIn (get_or xs k 0) xs
in_place [] k some = absurd (omega (arith, some))
in_place (x ∷ xs) zero some = inl refl
in_place (x ∷ xs) (suc k) some = inr (in_place xs k some)

-- Counting ----------------------------------------------------------------------------------------------------------------

step_first : (b c : Bool) (x y : ℕ) → x ≡ cond c 1 0 + y → cond b (1 + x) x ≡ cond c 1 0 + cond b (1 + y) y
step_first true c x y e = omega (arith, e)
step_first false c x y e = omega (arith, e)

-- the first number apart
first_apart : (q : ℕ → Bool) (n : ℕ) → count_below q (suc n) ≡ cond (q 0) 1 0 + count_below (λ k. q (suc k)) n
first_apart q zero = elim (q 0) as (λ b. cond b (1 + 0) 0 ≡ cond b 1 0 + 0) [ true ↦ omega arith | false ↦ omega arith ]
first_apart q (suc n) = step_first (q (suc n)) (q 0) (count_below q (suc n)) (count_below (λ k. q (suc k)) n) (first_apart q n)

module _ (p : ℕ → Bool) where
  filter_length : (x : ℕ) (xs : List ℕ) → length (filter p (x ∷ xs)) ≡ cond (p x) 1 0 + length (filter p xs)
  filter_length x xs = elim (p x) as (λ b. length (cond b (x ∷ filter p xs) (filter p xs)) ≡ cond b 1 0 + length (filter p xs)) [ true ↦ omega arith | false ↦ omega arith ]

  -- as many places pass as items, where 0 doesn't
  places_pass : p 0 ≡ false → (xs : List ℕ) (n : ℕ) → count_below (λ k. p (get_or xs k 0)) n ≤ length (filter p xs)
  places_pass zero_fails [] n = let none = none_below (λ k. p 0) n (λ k. zero_fails) in omega (arith, none)
  places_pass zero_fails (x ∷ xs) zero = omega arith
  places_pass zero_fails (x ∷ xs) (suc n) =
      let first = first_apart (λ k. p (get_or (x ∷ xs) k 0)) n in
      let rest = places_pass zero_fails xs n in
      let both = filter_length x xs in
      omega (arith, first, rest, both)

  items_pass : (xs : List ℕ) (n : ℕ) → length xs ≤ n → length (filter p xs) ≤ count_below (λ k. p (get_or xs k 0)) n
  items_pass [] n few = omega arith
  items_pass (x ∷ xs) zero few = absurd (omega (arith, few))
  items_pass (x ∷ xs) (suc n) few =
      let first = first_apart (λ k. p (get_or (x ∷ xs) k 0)) n in
      let rest = items_pass xs n (omega (arith, few)) in
      let both = filter_length x xs in
      omega (arith, first, rest, both)

-- The view to follow to ---------------------------------------------------------------------------------------------------

no_less : (own : ℕ) → nat_lt own 0 ≡ false
no_less own = elim (cases_Bool (nat_lt own 0)) [ inl t ↦ let lt = ltb-true own 0 t in absurd (omega (arith, lt)) | inr f ↦ f ]

-- there is one where enough ask for later views
pub some_follow : (xs : List ℕ) (own count n : ℕ) → 0 < count → count ≤ count_below (λ k. nat_lt own (get_or xs k 0)) n → (u : ℕ) × (least_of_enough xs own count ≡ Some u)
some_follow xs own count n positive enough =
    let le = places_pass (nat_lt own) (no_less own) xs n in
    let got = is_least (above xs own) (omega (arith, le, enough, positive)) in
    (got.0, ap (λ (b : Bool). cond b (least_of (above xs own)) None) (le-leb count (length (above xs own)) (omega (arith, le, enough))) ∙ got.1)

pub record Leads (xs : List ℕ) (own count n u : ℕ) : Type 0 where
  pub above : own < u
  pub least : (k : ℕ) → own < get_or xs k 0 → u ≤ get_or xs k 0
  pub many : length xs ≤ n → count ≤ count_below (λ k. nat_lt own (get_or xs k 0)) n

-- what one is
pub follow_is : (xs : List ℕ) (own count n u : ℕ) → least_of_enough xs own count ≡ Some u → Leads xs own count n u
follow_is xs own count n u is =
    cond_both (nat_le count (length (above xs own))) (least_of (above xs own)) None (λ (o : Option ℕ). o ≡ Some u → Leads xs own count n u)
    (λ enough e. record {
      above = least_above own (above xs own) u e (λ x i. ltb-true own x (filtered (nat_lt own) xs x i));
      least = λ k lt. least_each (above xs own) u e (get_or xs k 0) (into_filter (nat_lt own) xs (get_or xs k 0) (in_place xs k (omega (arith, lt))) (lt-ltb own (get_or xs k 0) lt));
      many = λ few. let le = items_pass (nat_lt own) xs n few in let least = leb-true count (length (above xs own)) enough in omega (arith, le, least);
    })
    (λ _ e. absurd cc) is
