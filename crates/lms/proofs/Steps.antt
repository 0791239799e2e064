-- One more step, one more piece, one level up.
use Rattle.std.proofs.Common.{◌≡◌, ◌≤◌, ◌<◌, ◌+◌, ◌-◌, ◌/◌, ◌^◌, ℕ, suc, List, [], ◌∷◌, ◌++◌, length, take, drop, refl, sym, ap, ◌∙◌, arith, append_assoc}
use Rattle.std.specs.Prelude.{slice_set}
use Rattle.std.proofs.lemmas.List.{set_split}
use Rattle.std.proofs.lemmas.Nat.{shr-shr}
use Rattle.lms.specs.Chains.{joined, step, steps}
use Rattle.lms.specs.Trees.{climbed, node_above}
use Rattle.lms.specs.Bytes.{hash_at}

steps_suc : (front : List ℕ) (from n : ℕ) (value : List ℕ) → steps front from (suc n) value ≡ step front (from + n) (steps front from n value)
unfolding steps
steps_suc front from n value = refl

pub no_steps : (front : List ℕ) (from n : ℕ) (value : List ℕ) → n ≡ 0 → steps front from n value ≡ value
unfolding steps
no_steps front from n value none = ap (λ k. steps front from k value) none

pub steps_more : (front : List ℕ) (from number : ℕ) (value : List ℕ) → from ≤ number
    → steps front from (number + 1 - from) value ≡ step front number (steps front from (number - from) value)
steps_more front from number value order =
    let more : number + 1 - from ≡ suc (number - from) = omega arith in
    let there : from + (number - from) ≡ number = omega arith in
    ap (λ k. steps front from k value) more ∙ steps_suc front from (number - from) value ∙ ap (λ k. step front k (steps front from (number - from) value)) there

-- a block with the number of a step in it
pub numbered : (block : List ℕ) (number : ℕ) → 22 < length block → slice_set block 22 number ≡ take 22 block ++ number ∷ drop 23 block
numbered block number long = set_split block 22 number long

joined_suc : (f : ℕ → List ℕ) (n : ℕ) → joined f (suc n) ≡ joined f n ++ f n
unfolding joined
joined_suc f n = refl

pub joined_none : (f : ℕ → List ℕ) → joined f 0 ≡ []
unfolding joined
joined_none f = refl

-- one piece more
pub joined_more : (front : List ℕ) (f : ℕ → List ℕ) (n : ℕ) → (front ++ joined f n) ++ f n ≡ front ++ joined f (n + 1)
joined_more front f n =
    let more : suc n ≡ n + 1 = omega arith in
    append_assoc front (joined f n) (f n) ∙ ap (λ (l : List ℕ). front ++ l) (sym (joined_suc f n) ∙ ap (joined f) more)

climbed_suc : (id : List ℕ) (number : ℕ) (node path : List ℕ) (n : ℕ)
    → climbed id number node path (suc n) ≡ node_above id (number / 2 ^ n) (climbed id number node path n) (hash_at n path)
unfolding climbed
climbed_suc id number node path n = refl

pub climbed_none : (id : List ℕ) (number : ℕ) (node path : List ℕ) → climbed id number node path 0 ≡ node
unfolding climbed
climbed_none id number node path = refl

-- one level up
pub climbed_more : (id : List ℕ) (number : ℕ) (node path : List ℕ) (n : ℕ)
    → climbed id number node path (n + 1) ≡ node_above id (number / 2 ^ n) (climbed id number node path n) (hash_at n path)
climbed_more id number node path n =
    let more : n + 1 ≡ suc n = omega arith in
    ap (climbed id number node path) more ∙ climbed_suc id number node path n

pub halved : (number n : ℕ) → number / 2 ^ n / 2 ≡ number / 2 ^ (n + 1)
halved number n = shr-shr number n 1
