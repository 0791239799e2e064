-- Lists of what some elements give, one after another.
use Rattle.std.proofs.Common.{◌≡◌, ◌∙◌, ℕ, ◌+◌, ◌<◌, List, [], ◌∷◌, ◌++◌, Option, Some, None, length, take, get_or, refl, sym, ap, append-nil}
use Rattle.std.specs.List.{filter_map}
use Rattle.std.proofs.lemmas.List.{take_more}
use Rattle.std.proofs.lemmas.List.Elements.{filter_map-append}

more : {X Y : Type 0} (h : X → Option Y) (xs : List X) (i : ℕ) (d x : X) → i < length xs → get_or xs i d ≡ x
    → filter_map h (take (i + 1) xs) ≡ filter_map h (take i xs) ++ filter_map h (x ∷ [])
more h xs i d x within is =
    ap (filter_map h) (take_more xs i d within ∙ ap (λ last. take i xs ++ last ∷ []) is) ∙ filter_map-append h (take i xs) (x ∷ [])

-- one that gives something
pub one_given : {X Y : Type 0} (h : X → Option Y) (xs : List X) (i : ℕ) (d x : X) (y : Y) (before after : List Y) → i < length xs → get_or xs i d ≡ x → h x ≡ Some y
    → before ≡ filter_map h (take i xs) → after ≡ before ++ y ∷ [] → after ≡ filter_map h (take (i + 1) xs)
one_given h xs i d x y before after within is gives so_far pushed =
    pushed ∙ ap (λ all. all ++ y ∷ []) so_far ∙ ap (λ all. filter_map h (take i xs) ++ all) (sym (rw gives refl)) ∙ sym (more h xs i d x within is)

-- one that gives nothing
pub none_given : {X Y : Type 0} (h : X → Option Y) (xs : List X) (i : ℕ) (d x : X) (before : List Y) → i < length xs → get_or xs i d ≡ x → h x ≡ None
    → before ≡ filter_map h (take i xs) → before ≡ filter_map h (take (i + 1) xs)
none_given h xs i d x before within is gives so_far =
    so_far ∙ sym (append-nil (filter_map h (take i xs))) ∙ ap (λ all. filter_map h (take i xs) ++ all) (sym (rw gives refl)) ∙ sym (more h xs i d x within is)
