-- What is found for numbers one after another: with one number more.
use Rattle.std.proofs.Common.{◌≡◌, ℕ, ◌+◌, ◌≤◌, List, [], ◌∷◌, ◌++◌, length, Option, Some, None, refl, sym, ap, ◌∙◌, arith}
use Rattle.std.specs.Prelude.{option_to_list}
use Rattle.std.specs.List.{cons_option, filter_map, range_with_len}
use Rattle.std.proofs.lemmas.List.{length-append, map-id}
use Rattle.std.proofs.lemmas.List.FromFn.{map-range_with_len_more}
use Rattle.std.proofs.lemmas.List.Elements.{filter_map-append}

pub numbers_next : (a n j : ℕ) → a + n ≡ j → range_with_len a (n + 1) ≡ range_with_len a n ++ j ∷ []
numbers_next a n j e = sym (map-id (range_with_len a (n + 1))) ∙ map-range_with_len_more (λ k. k) a n j e ∙ ap (λ xs. xs ++ j ∷ []) (map-id (range_with_len a n))

one_of : {B : Type 0} (o : Option B) → cons_option o [] ≡ option_to_list o
one_of None = refl
one_of (Some b) = refl

-- one number more
pub number_next : {B : Type 0} (h : ℕ → Option B) (a k : ℕ) (old new more : List B) → new ≡ old ++ more → old ≡ filter_map h (range_with_len a k) → more ≡ option_to_list (h (a + k))
    → new ≡ filter_map h (range_with_len a (k + 1))
number_next h a k old new more grown before found =
    grown ∙ ap (λ ys. ys ++ more) before ∙ ap (λ ys. filter_map h (range_with_len a k) ++ ys) (found ∙ sym (one_of (h (a + k))))
    ∙ sym (ap (filter_map h) (numbers_next a k (a + k) refl) ∙ filter_map-append h (range_with_len a k) ((a + k) ∷ []))

pub one_longer : {B : Type 0} (old new : List B) (more : Option B) (k : ℕ) → new ≡ old ++ option_to_list more → length old ≤ k → length new ≤ k + 1
one_longer old new None k e le = let same = ap length e in let sum = length-append old [] in omega (arith, le, same, sum)
one_longer old new (Some b) k e le = let same = ap length e in let sum = length-append old (b ∷ []) in omega (arith, le, same, sum)
