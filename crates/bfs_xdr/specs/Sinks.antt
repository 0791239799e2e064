-- Where items go, and what was taken before.
use Rattle.std.specs.Prelude.{◌≡◌, ◌≤◌, ℕ, List, ◌++◌, length, take}
use Rattle.std.proofs.Common.{sym, ap, subst, ◌∙◌}
use Rattle.std.proofs.Math.Nat.{le-add_right}
use Rattle.std.proofs.Math.Seq.{take-append_seam}
use Rattle.std.proofs.lemmas.List.{length-append, take-take}

-- that text was taken behind what had been taken before
abbrev pub Takes : {S : Type 0} → (S → List ℕ → Type 0) → (old new : S) → (text : List ℕ) → Type 0
Takes Holds old new text = (before : List ℕ) → Holds old before → Holds new (before ++ text)

-- what had been taken before stays in front
abbrev pub Stops : {S : Type 0} → (Holds Begins : S → List ℕ → Type 0) → (old new : S) → Type 0
Stops Holds Begins old new = (before : List ℕ) → Holds old before → Begins new before

-- bytes begin with those
abbrev pub BeginsWith : (front bytes : List ℕ) → Type 0
BeginsWith front bytes = take (length front) bytes ≡ front

-- what begins with bytes begins with their front
pub front_begins : (front rest bytes : List ℕ) → BeginsWith (front ++ rest) bytes → BeginsWith front bytes
front_begins front rest bytes begins =
    sym (take-take (length front) (length (front ++ rest)) bytes (subst (λ n. length front ≤ n) (sym (length-append front rest)) (le-add_right (length front) (length rest)))) ∙ ap (take (length front)) begins ∙ take-append_seam front rest
