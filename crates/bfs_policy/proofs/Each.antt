-- One more of all is changed in its place.
use Rattle.std.proofs.Common.{◌≡◌, ◌∙◌, ℕ, ◌+◌, ◌<◌, List, ◌++◌, drop, get_or, length, map, set, take, ap}
use Rattle.std.proofs.lemmas.List.Edits.{map_over_more}

pub each_more : {A : Type 0} (f : A → A) (xs ys : List A) (i : ℕ) (x after : A) → i < length xs → ys ≡ map f (take i xs) ++ drop i xs → x ≡ get_or ys i x → after ≡ f x
    → set ys i after ≡ map f (take (i + 1) xs) ++ drop (i + 1) xs
each_more f xs ys i x after within is here so = ap (set ys i) so ∙ map_over_more f xs ys i x within is here
