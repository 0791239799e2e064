-- Digits of a hash and of its checksum: where the chains of a one-time signature are cut.
use Rattle.std.specs.Prelude.{ℕ, zero, suc, ◌+◌, ◌-◌, ◌*◌, ◌/◌, ◌%◌, ◌^◌, List, ◌++◌, slice_index, bit_and}
use Rattle.std.specs.Int.{to_be_bytes, w16}
use Rattle.lms.specs.declared.types.OtsType.{OtsType}
use Rattle.lms.specs.Types.{checksum_shift, hash_digits, last_step, width}

-- coef: the digit of w bits at a place (RFC 8554 section 3.1.3)
abbrev pub coef : (w : ℕ) → List ℕ → (place : ℕ) → ℕ
coef w bytes place = bit_and (slice_index bytes (place * w / 8) / 2 ^ (8 - (w * (place % (8 / w)) + w))) (2 ^ w - 1)

-- f 0 + f 1 + … + f (count - 1)
unfoldable pub sum_of : (ℕ → ℕ) → (count : ℕ) → ℕ
sum_of f zero = 0
sum_of f (suc n) = sum_of f n + f n

-- the checksum of a hash (section 4.4)
abbrev pub checksum : OtsType → (hash : List ℕ) → ℕ
checksum ots hash = sum_of (λ place. last_step ots - coef (width ots) hash place) (hash_digits ots) * 2 ^ checksum_shift ots

-- a hash with its checksum behind it
abbrev pub with_checksum : OtsType → (hash : List ℕ) → List ℕ
with_checksum ots hash = hash ++ to_be_bytes w16 (checksum ots hash)

-- the step at which a chain is cut by the signature of a hash
abbrev pub cut : OtsType → (hash : List ℕ) → (chain : ℕ) → ℕ
cut ots hash chain = coef (width ots) (with_checksum ots hash) chain
