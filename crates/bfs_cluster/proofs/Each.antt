-- What happens to each replica, one number after another.
use Rattle.std.proofs.Common.{◌≡◌, ◌∙◌, ℕ, ◌+◌, List, [], ◌∷◌, ◌++◌, map, sym, ap, arith}
use Rattle.std.specs.List.{fold, range_with_len}
use Rattle.std.proofs.lemmas.List.{map-id}
use Rattle.std.proofs.lemmas.List.FromFn.{map-range_with_len_more}
use Rattle.std.proofs.lemmas.List.Sums.{fold-append}

pub range_more : (n : ℕ) → range_with_len 0 (n + 1) ≡ range_with_len 0 n ++ n ∷ []
range_more n =
    sym (map-id (range_with_len 0 (n + 1))) ∙ map-range_with_len_more (λ x. x) 0 n n (omega arith)
    ∙ ap (λ (xs : List ℕ). xs ++ n ∷ []) (map-id (range_with_len 0 n))

-- one number more
pub one_more : {W : Type 0} (happens : W → ℕ → W) (world : W) (n : ℕ)
    → fold happens world (range_with_len 0 (n + 1)) ≡ happens (fold happens world (range_with_len 0 n)) n
one_more happens world n = ap (fold happens world) (range_more n) ∙ fold-append happens world (range_with_len 0 n) (n ∷ [])

pub one_more_made : {X : Type 0} (make : ℕ → X) (n : ℕ) → map make (range_with_len 0 (n + 1)) ≡ map make (range_with_len 0 n) ++ make n ∷ []
one_more_made make n = map-range_with_len_more make 0 n n (omega arith)
