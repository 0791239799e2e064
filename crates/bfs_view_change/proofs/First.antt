-- The first of a list in an order: a fold that keeps the better of two ends with it.
use Rattle.std.proofs.Common.{◌≡◌, Bool, false, List, ◌∷◌, sym, ◌∙◌}
use Rattle.std.specs.Cmp.{IsStrictWeakOrder}
use Rattle.std.specs.List.{Contains, best_of}
use Rattle.std.proofs.lemmas.List.{get_or_default}
use Rattle.std.proofs.lemmas.List.MinMax.{IsFirstBest-from_best_of}

pub record IsFirst {A : Type 0} (beats : A → A → Bool) (xs : List A) (b : A) : Type 0 where
  pub found : Contains xs b
  pub rest : (x : A) → Contains xs x → beats x b ≡ false

pub is_first : {A : Type 0} {beats : A → A → Bool} → IsStrictWeakOrder beats → (a : A) (xs : List A) → IsFirst beats (a ∷ xs) (best_of beats a xs)
is_first {A} {beats} o a xs =
    let at = IsFirstBest-from_best_of o a xs in
    let read = λ (d : A). get_or_default (a ∷ xs) at.0 d a at.1.0 ∙ at.2 in
    record { found = (at.0, at.1.0, read (best_of beats a xs)); rest = λ x m. sym (λ j. beats (m.2 j) (read x j)) ∙ at.1.1 m.0 x m.1 }
