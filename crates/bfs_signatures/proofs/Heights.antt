-- The least height of a tree.
use Rattle.std.proofs.Common.{◌≡◌, ◌≤◌, ◌<◌, ◌^◌, inl, inr, ℕ, zero, suc, refl, ap, ◌∙◌, arith}
use Rattle.std.specs.Prelude.{nat_lt}
use Rattle.std.proofs.lemmas.Bool.{cases_lt, cond-false, cond-true, le-ltb, lt-ltb}
use Rattle.std.proofs.Math.Pow.{pow_mono}
use Rattle.bfs_signatures.specs.Signing.{least_height}

least_none : (count : ℕ) → least_height 0 count ≡ 0
unfolding least_height
least_none count = refl

too_low : (n count : ℕ) → 2 ^ n < count → least_height (suc n) count ≡ suc n
unfolding least_height
too_low n count more = cond-true (nat_lt (2 ^ n) count) (suc n) (least_height n count) (lt-ltb (2 ^ n) count more)

high : (n count : ℕ) → count ≤ 2 ^ n → least_height (suc n) count ≡ least_height n count
unfolding least_height
high n count room = cond-false (nat_lt (2 ^ n) count) (suc n) (least_height n count) (le-ltb (2 ^ n) count room)

-- it is the one with room for the leaves, of which no lower one has
pub least_is : (most count height : ℕ) → height ≤ most → count ≤ 2 ^ height → ((lower : ℕ) → lower < height → 2 ^ lower < count) → least_height most count ≡ height
least_is zero count height few room least = least_none count ∙ omega (arith, few)
least_is (suc n) count height few room least = elim (cases_lt (2 ^ n) count) [
  | inl more ↦ elim (cases_lt n height) [
    | inl above ↦ too_low n count more ∙ omega (arith, few, above)
    | inr within ↦
        let less : 2 ^ height ≤ 2 ^ n = pow_mono within in
        absurd (omega (arith, less, room, more))
  ]
  | inr enough ↦ elim (cases_lt n height) [
    | inl above ↦ absurd (omega (arith, least n above, enough))
    | inr within ↦ high n count enough ∙ least_is n count height within room least
  ]
]

-- it has room, and no lower one has
pub record IsLeast (most count height : ℕ) : Type 0 where
  pub few : height ≤ most
  pub room : count ≤ 2 ^ height
  pub least : (other : ℕ) → count ≤ 2 ^ other → height ≤ other

pub is_least : (most count : ℕ) → count ≤ 2 ^ most → IsLeast most count (least_height most count)
is_least zero count fits =
    let none = least_none count in
    record {
      few = omega (arith, none);
      room = omega (arith, fits, ap (λ n. 2 ^ n) none);
      least = λ other room. omega (arith, none);
    }
is_least (suc n) count fits = elim (cases_lt (2 ^ n) count) [
  | inl more ↦
      let is = too_low n count more in
      record {
        few = omega (arith, is);
        room = omega (arith, fits, ap (λ n. 2 ^ n) is);
        least = λ other room. elim (cases_lt n other) [
          | inl above ↦ omega (arith, is, above)
          | inr within ↦
              let less : 2 ^ other ≤ 2 ^ n = pow_mono within in
              absurd (omega (arith, less, room, more))
        ];
      }
  | inr enough ↦
      let is = high n count enough in
      let below = is_least n count enough in
      record {
        few = omega (arith, is, below.few);
        room = omega (arith, below.room, ap (λ n. 2 ^ n) is);
        least = λ other room. omega (arith, is, below.least other room);
      }
]
