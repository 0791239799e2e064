-- The way from a leaf to the root, and the nodes beside it.
use Rattle.std.proofs.Common.{◌≡◌, ◌≤◌, ◌<◌, ◌+◌, ◌-◌, ◌*◌, ◌/◌, ◌%◌, ◌^◌, inl, inr, ℕ, suc, true, false, ap, ◌∙◌, arith}
use Rattle.std.specs.Prelude.{◌==◌}
use Rattle.std.proofs.lemmas.Bool.{cases_Bool, cond-false, cond-true, eqb-false, eqb-true}
use Rattle.std.proofs.lemmas.Nat.{div_below, le-div, pow-add, pow_pos}
use Rattle.std.proofs.Math.Nat.{mul-le-mul_right, mul_comm, pow-succ'}
use Rattle.lms.specs.declared.types.LmsType.{LmsType}
use Rattle.lms.specs.Types.{height, leaf_count}
use Rattle.lms.specs.Secrets.{sibling}
use Rattle.lms.specs.Nodes.{IsAtLevel}

pub odd_sibling : (number : ℕ) → (number % 2 == 1) ≡ true → sibling number ≡ number - 1
odd_sibling number odd = cond-true (number % 2 == 1) (number - 1) (number + 1) odd

pub even_sibling : (number : ℕ) → (number % 2 == 1) ≡ false → sibling number ≡ number + 1
even_sibling number even = cond-false (number % 2 == 1) (number - 1) (number + 1) even

-- a number between two even ones has its sibling there
beside_within : (number half : ℕ) → 2 * half ≤ number → number < 4 * half → (2 * half ≤ sibling number) × (sibling number < 4 * half)
beside_within number half low high = elim (cases_Bool (number % 2 == 1)) [
  | inl odd ↦
      let is = odd_sibling number odd in
      let rest : number % 2 ≡ 1 = eqb-true (number % 2) 1 odd in
      (omega (arith, is, rest, low), omega (arith, is, rest, high))
  | inr even ↦
      let is = even_sibling number even in
      let rest = eqb-false (number % 2) 1 even in
      (omega (arith, is, rest, low), omega (arith, is, rest, high))
]

-- as many nodes as a level has
at_height : (lms : LmsType) (level rest : ℕ) → height lms ≡ level + suc rest → leaf_count lms ≡ 2 * 2 ^ rest * 2 ^ level
at_height lms level rest e =
    ap (λ k. 2 ^ k) e ∙ pow-add 2 level (suc rest) ∙ ap (λ k. 2 ^ level * k) (pow-succ' 2 rest) ∙ mul_comm (2 ^ level) (2 * 2 ^ rest)

pub on_the_way : (lms : LmsType) (level leaf rest : ℕ) → height lms ≡ level + suc rest → leaf < leaf_count lms
    → (2 * 2 ^ rest ≤ (leaf_count lms + leaf) / 2 ^ level) × ((leaf_count lms + leaf) / 2 ^ level < 4 * 2 ^ rest)
on_the_way lms level leaf rest e fits =
    let all = at_height lms level rest e in (
      le-div (2 * 2 ^ rest) (leaf_count lms + leaf) (2 ^ level) (pow_pos level) (omega (arith, all)),
      div_below (leaf_count lms + leaf) (2 ^ level) (4 * 2 ^ rest) (pow_pos level) (omega (arith, all, fits)),
    )

-- the node beside the way is of the level
pub beside_at : (lms : LmsType) (level leaf : ℕ) → level < height lms → leaf < leaf_count lms
    → IsAtLevel (leaf_count lms) level (sibling ((leaf_count lms + leaf) / 2 ^ level))
beside_at lms level leaf below fits =
    let rest = height lms - suc level in
    let e : height lms ≡ level + suc rest = omega (arith, below) in
    let all = at_height lms level rest e in
    let number = (leaf_count lms + leaf) / 2 ^ level in
    let way = on_the_way lms level leaf rest e fits in
    let within = beside_within number (2 ^ rest) way.0 way.1 in
    let low : 2 * 2 ^ rest * 2 ^ level ≤ sibling number * 2 ^ level = mul-le-mul_right (2 ^ level) within.0 in
    let more : sibling number + 1 ≤ 4 * 2 ^ rest = omega (arith, within.1) in
    let high : (sibling number + 1) * 2 ^ level ≤ 4 * 2 ^ rest * 2 ^ level = mul-le-mul_right (2 ^ level) more in
    (omega (arith, all, low), omega (arith, all, high))
