-- Lists: one number more, and the least of some.
use Rattle.std.proofs.Common.{◌≡◌, ℕ, ◌+◌, ◌-◌, ◌<◌, List, [], ◌∷◌, ◌++◌, Some, map, min, sym, ap, ◌∙◌, arith}
use Rattle.std.specs.List.{range_with_len}
use Rattle.std.specs.Option.{unwrap_or}
pub use Rattle.std.proofs.lemmas.List.Sums.{fold-append as fold_append}
use Rattle.std.proofs.lemmas.List.FromFn.{map-range_with_len_more}
use Rattle.bfs_view_change.specs.Changes.Keeping.{least_of}

pub least_of_more : (views : List ℕ) (view : ℕ) → Some (min (unwrap_or (least_of views) view) view) ≡ least_of (views ++ view ∷ [])
least_of_more [] view = ap Some (let same : min view view ≡ view = omega arith in same)
least_of_more (first ∷ views) view = ap Some (sym (fold_append min first views (view ∷ [])))

pub one_number_more : {A : Type 0} (f : ℕ → A) (low n : ℕ) → low < n → map f (range_with_len (low + 1) (n + 1 - (low + 1))) ≡ map f (range_with_len (low + 1) (n - (low + 1))) ++ f n ∷ []
one_number_more f low n lt =
    let k : n + 1 - (low + 1) ≡ (n - (low + 1)) + 1 = omega (arith, lt) in
    ap (λ j. map f (range_with_len (low + 1) j)) k ∙ map-range_with_len_more f (low + 1) (n - (low + 1)) n (omega (arith, lt))
