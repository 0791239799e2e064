-- What is in lists that are made of many.
use Rattle.std.proofs.Common.{◌≡◌, ℕ, zero, suc, ◌+◌, ◌<◌, ◌≤◌, Bool, true, false, cond, List, [], ◌∷◌, inl, inr, refl, subst, arith}
use Rattle.std.specs.List.{flat_map, range_with_len}
use Rattle.std.proofs.lemmas.Bool.{cases_lt}
use Rattle.bfs_agreement.specs.Histories.{IsIn}
use Rattle.bfs_nodes_agree.specs.Nodes.Replicas.{NodeTurn}
use Rattle.bfs_nodes_agree.proofs.Public.{either_in, left_in, right_in}
use Rattle.bfs_nodes_progress.specs.Following.{each_takes}

-- Where a test passes -------------------------------------------------------------------------------------------------

pub in_where : {A : Type 0} (b : Bool) (xs : List A) (x : A) → b ≡ true → IsIn x xs → IsIn x (cond b xs [])
in_where true xs x is i = i
in_where false xs x is i = absurd cc

pub out_of_where : {A : Type 0} (b : Bool) (xs : List A) (x : A) → IsIn x (cond b xs []) → (b ≡ true) × IsIn x xs
out_of_where true xs x i = (refl, i)
out_of_where false xs x i = absurd i

-- Turns of each -------------------------------------------------------------------------------------------------------

pub in_each : (turns : ℕ → List NodeTurn) (bound k : ℕ) (turn : NodeTurn) → k < bound → IsIn turn (turns k) → IsIn turn (each_takes turns bound)
in_each turns zero k turn lt i = absurd (omega (arith, lt))
in_each turns (suc b) k turn lt i = elim (cases_lt k b) [
  | inl less ↦ right_in (turns b) (each_takes turns b) turn (in_each turns b k turn less i)
  | inr le ↦ let same : k ≡ b = omega (arith, lt, le) in left_in (turns b) (each_takes turns b) turn (subst (λ (j : ℕ). IsIn turn (turns j)) same i)
]

pub out_of_each : (turns : ℕ → List NodeTurn) (bound : ℕ) (turn : NodeTurn) → IsIn turn (each_takes turns bound) → (k : ℕ) × (k < bound) × IsIn turn (turns k)
out_of_each turns zero turn i = absurd i
out_of_each turns (suc b) turn i = elim (either_in (turns b) (each_takes turns b) turn i) [
  | inl here ↦ (b, omega arith, here)
  | inr later ↦ let got = out_of_each turns b turn later in let lt = got.1 in (got.0, omega (arith, lt), got.2)
]

-- What many give ------------------------------------------------------------------------------------------------------

pub in_all : {A B : Type 0} (g : A → List B) (xs : List A) (x : A) (y : B) → IsIn x xs → IsIn y (g x) → IsIn y (flat_map g xs)
in_all g [] x y i j = absurd i
in_all {A} {B} g (z ∷ xs) x y i j = elim i [
  | inl same ↦ left_in (g z) (flat_map g xs) y (subst (λ (a : A). IsIn y (g a)) same j)
  | inr k ↦ right_in (g z) (flat_map g xs) y (in_all g xs x y k j)
]

pub out_of_all : {A B : Type 0} (g : A → List B) (xs : List A) (y : B) → IsIn y (flat_map g xs) → (x : A) × IsIn x xs × IsIn y (g x)
out_of_all g [] y i = absurd i
out_of_all g (z ∷ xs) y i = elim (either_in (g z) (flat_map g xs) y i) [
  | inl here ↦ (z, inl refl, here)
  | inr later ↦ let got = out_of_all g xs y later in (got.0, inr got.1, got.2)
]

pub in_run : (from count n : ℕ) → from ≤ n → n < from + count → IsIn n (range_with_len from count)
in_run from zero n low high = absurd (omega (arith, low, high))
in_run from (suc count) n low high = elim (cases_lt from n) [
  | inl lt ↦ inr (in_run (from + 1) count n (omega (arith, lt)) (omega (arith, high)))
  | inr le ↦ inl (omega (arith, le, low))
]

pub out_of_run : (from count n : ℕ) → IsIn n (range_with_len from count) → (from ≤ n) × (n < from + count)
out_of_run from zero n i = absurd i
out_of_run from (suc count) n i = elim i [
  | inl same ↦ (omega (arith, same), omega (arith, same))
  | inr later ↦ let got = out_of_run (from + 1) count n later in let low = got.0 in let high = got.1 in (omega (arith, low), omega (arith, high))
]
