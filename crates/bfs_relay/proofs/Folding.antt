-- One more step of what is done one after another.
use Rattle.std.proofs.Common.{◌≡◌, ◌∙◌, ℕ, ◌+◌, ◌<◌, List, [], ◌∷◌, ◌++◌, Option, Some, None, get_or, length, map, take, refl, sym, ap, arith}
use Rattle.std.specs.Prelude.{option_to_list}
use Rattle.std.specs.List.{filter_map, fold, range_with_len}
use Rattle.std.proofs.lemmas.List.{map-id, take_more}
use Rattle.std.proofs.lemmas.List.Elements.{filter_map-append}
use Rattle.std.proofs.lemmas.List.FromFn.{map-range_with_len_more}
use Rattle.std.proofs.lemmas.List.Sums.{fold-append}

range_more : (n : ℕ) → range_with_len 0 (n + 1) ≡ range_with_len 0 n ++ n ∷ []
range_more n =
    sym (map-id (range_with_len 0 (n + 1))) ∙ map-range_with_len_more (λ x. x) 0 n n (omega arith)
    ∙ ap (λ (xs : List ℕ). xs ++ n ∷ []) (map-id (range_with_len 0 n))

-- one number more
pub fold_more_numbers : {W : Type 0} (step : W → ℕ → W) (w : W) (n : ℕ)
    → fold step w (range_with_len 0 (n + 1)) ≡ step (fold step w (range_with_len 0 n)) n
fold_more_numbers step w n = ap (fold step w) (range_more n) ∙ fold-append step w (range_with_len 0 n) (n ∷ [])

pub map_more_numbers : {X : Type 0} (f : ℕ → X) (n : ℕ) → map f (range_with_len 0 (n + 1)) ≡ map f (range_with_len 0 n) ++ f n ∷ []
map_more_numbers f n = map-range_with_len_more f 0 n n (omega arith)

pub taken_more : {A : Type 0} (xs : List A) (i : ℕ) (x : A) → i < length xs → x ≡ get_or xs i x → take (i + 1) xs ≡ take i xs ++ x ∷ []
taken_more xs i x within is = take_more xs i x within ∙ ap (λ last. take i xs ++ last ∷ []) (sym is)

-- one item more
pub fold_more : {W A : Type 0} (step : W → A → W) (w : W) (xs : List A) (i : ℕ) (x : A) → i < length xs → x ≡ get_or xs i x
    → fold step w (take (i + 1) xs) ≡ step (fold step w (take i xs)) x
fold_more step w xs i x within is = ap (fold step w) (taken_more xs i x within is) ∙ fold-append step w (take i xs) (x ∷ [])

one_of : {A B : Type 0} (f : A → Option B) (x : A) → filter_map f (x ∷ []) ≡ option_to_list (f x)
one_of {A} {B} f x = go (f x)
  where
    go : (found : Option B) → filter_map (λ (o : Option B). o) (found ∷ []) ≡ option_to_list found
    go None = refl
    go (Some y) = refl

pub filter_map_more : {A B : Type 0} (f : A → Option B) (xs : List A) (i : ℕ) (x : A) → i < length xs → x ≡ get_or xs i x
    → filter_map f (take (i + 1) xs) ≡ filter_map f (take i xs) ++ option_to_list (f x)
filter_map_more f xs i x within is =
    ap (filter_map f) (taken_more xs i x within is) ∙ filter_map-append f (take i xs) (x ∷ []) ∙ ap (λ more. filter_map f (take i xs) ++ more) (one_of f x)
