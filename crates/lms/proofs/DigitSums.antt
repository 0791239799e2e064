-- Digits and sums of them.
use Rattle.std.proofs.Common.{◌≡◌, ◌≤◌, ◌<◌, ◌+◌, ◌-◌, ◌*◌, ◌/◌, ◌%◌, ◌^◌, ℕ, suc, List, refl, ap, ◌∙◌, arith}
use Rattle.std.specs.Prelude.{bit_and, slice_index}
use Rattle.std.proofs.lemmas.Nat.{and_le_r, and_mask}
use Rattle.lms.specs.declared.types.OtsType.{OtsType}
use Rattle.lms.specs.declared.types.OtsType.TheVariants.{W1, W2, W4, W8}
use Rattle.lms.specs.Types.{checksum_shift, hash_digits, last_step, width}
use Rattle.lms.specs.Digits.{coef, sum_of}

-- a byte is a digit of eight bits
pub byte_digit : (bytes : List ℕ) (place : ℕ) → slice_index bytes place < 256 → coef 8 bytes place ≡ slice_index bytes place
byte_digit bytes place small =
    let there : place * 8 / 8 ≡ place = omega arith in
    let whole : 8 - (8 * (place % 1) + 8) ≡ 0 = omega arith in
    ap (λ k. bit_and (slice_index bytes k / 2 ^ (8 - (8 * (place % 1) + 8))) 255) there
    ∙ ap (λ k. bit_and (slice_index bytes place / 2 ^ k) 255) whole
    ∙ and_mask (slice_index bytes place / 1) 8
    ∙ omega (arith, small)

pub digit_le : (ots : OtsType) (bytes : List ℕ) (place : ℕ) → coef (width ots) bytes place ≤ last_step ots
digit_le W1 bytes place = and_le_r _ 1
digit_le W2 bytes place = and_le_r _ 3
digit_le W4 bytes place = and_le_r _ 15
digit_le W8 bytes place = and_le_r _ 255

-- one digit more
pub sum_more : (f : ℕ → ℕ) (n : ℕ) → sum_of f (n + 1) ≡ sum_of f n + f n
unfolding sum_of
sum_more f n =
    let more : n + 1 ≡ suc n = omega arith in
    ap (sum_of f) more

pub sum_none : (f : ℕ → ℕ) → sum_of f 0 ≡ 0
unfolding sum_of
sum_none f = refl

-- the sum fits as the digits are added up
pub sum_fits : (ots : OtsType) (place sum : ℕ) → place < hash_digits ots → sum ≤ place * last_step ots → sum + last_step ots ≤ 8160
sum_fits W1 place sum below small = omega arith
sum_fits W2 place sum below small = omega arith
sum_fits W4 place sum below small = omega arith
sum_fits W8 place sum below small = omega arith

-- so does the checksum where it stands
pub shift_fits : (ots : OtsType) (sum : ℕ) → sum ≤ hash_digits ots * last_step ots → sum * 2 ^ checksum_shift ots < 2 ^ 16
shift_fits W1 sum small = omega arith
shift_fits W2 sum small = omega arith
shift_fits W4 sum small = omega arith
shift_fits W8 sum small = omega arith

-- a digit of a hash stands in it
pub within_hash : (ots : OtsType) (place : ℕ) → place < hash_digits ots → place * width ots < 256
within_hash W1 place below = omega arith
within_hash W2 place below = omega arith
within_hash W4 place below = omega arith
within_hash W8 place below = omega arith
