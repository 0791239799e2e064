-- A number digit by digit, and bytes by two digits each.
use Rattle.std.proofs.Common.{◌≡◌, ◌+◌, ◌*◌, ◌<◌, ◌≤◌, ◌&&◌, ℕ, List, [], ◌∷◌, length, Bool, true, false, Option, Some, None, if◌then◌else◌, nat_le, Ok, refl, sym, arith}
use Rattle.std.specs.Prelude.{option_and_then}
use Rattle.std.specs.Char.{digit_value}
use Rattle.std.specs.Str.Parse.{digits_value_after}
use Rattle.std.proofs.lemmas.Bool.{le-leb, lt-leb, leb-true, leb-false}
use Rattle.hex.specs.Hex.{decode_of}
use Rattle.hex.proofs.HexLemmas.{decode_of-ok}
use Rattle.std.proofs.Math.Nat.{le-mul_of_pos_right}
use Rattle.bfs_trace.specs.Words.{are_digits, digits_spelled, is_digit, with_digit}

-- the number with all these digits behind it, where each number on the way is at most `max`
unfoldable pub number_after : (radix max value : ℕ) → List ℕ → Option ℕ
number_after radix max value [] = Some value
number_after radix max value (byte ∷ bytes) = option_and_then (λ v. number_after radix max v bytes) (with_digit radix max value byte)

-- the number of the digits behind a value, where it is at most `max`
abbrev spelled : (radix max value : ℕ) → List ℕ → Option ℕ
spelled radix max value word =
    if are_digits radix word && nat_le (digits_value_after radix value word) max then Some (digits_value_after radix value word) else None

times_more : (radix value : ℕ) → 1 ≤ radix → value ≤ value * radix
times_more radix value some = le-mul_of_pos_right value some

-- more digits make no number smaller
digits_value_after-above : (radix value : ℕ) (word : List ℕ) → 1 ≤ radix → value ≤ digits_value_after radix value word
digits_value_after-above radix value [] some = omega arith
digits_value_after-above radix value (byte ∷ bytes) some =
    omega (arith, times_more radix value some, digits_value_after-above radix (value * radix + digit_value byte) bytes some)

spelled-above : (radix max value : ℕ) (word : List ℕ) → 1 ≤ radix → max < value → spelled radix max value word ≡ None
spelled-above radix max value word some above =
    rw (lt-leb (digits_value_after radix value word) max (omega (arith, digits_value_after-above radix value word some))) (never (are_digits radix word))
  where
    never : (digits : Bool) → (if digits && false then Some (digits_value_after radix value word) else None) ≡ None
    never true = refl
    never false = refl

number_after-spelled : (radix max value : ℕ) (word : List ℕ) → 1 ≤ radix → value ≤ max → number_after radix max value word ≡ spelled radix max value word
unfolding number_after with_digit
number_after-spelled radix max value [] some le = rw (le-leb value max le) refl
number_after-spelled radix max value (byte ∷ bytes) some le =
    go (is_digit radix byte) (nat_le longer max) refl (number_after-spelled radix max longer bytes some)
  where
    longer : ℕ
    longer = value * radix + digit_value byte

    go : (digit fits : Bool) → nat_le longer max ≡ fits → (longer ≤ max → number_after radix max longer bytes ≡ spelled radix max longer bytes)
        → option_and_then (λ v. number_after radix max v bytes) (if digit && fits then Some longer else None)
        ≡ (if digit && are_digits radix bytes && nat_le (digits_value_after radix longer bytes) max then Some (digits_value_after radix longer bytes) else None)
    go false fits is rest = refl
    go true true is rest = rest (leb-true longer max is)
    go true false is rest = sym (spelled-above radix max longer bytes some (leb-false longer max is))

-- a word of one digit or more is read digit by digit
pub number_by_digits : (radix max : ℕ) (word : List ℕ) → 1 ≤ radix → 0 < length word → number_after radix max 0 word ≡ digits_spelled radix max word
unfolding digits_spelled
number_by_digits radix max [] radical some = absurd (omega arith)
number_by_digits radix max (byte ∷ bytes) radical some = number_after-spelled radix max 0 (byte ∷ bytes) radical (omega arith)

pub number_of_nothing : (radix max : ℕ) (word : List ℕ) → length word ≡ 0 → digits_spelled radix max word ≡ None
unfolding digits_spelled
number_of_nothing radix max [] none = refl
number_of_nothing radix max (byte ∷ bytes) none = absurd (omega arith)

-- a text decodes to half as many bytes as it has digits
pub half : (digits bytes : List ℕ) → decode_of digits ≡ Ok bytes → length digits ≡ 2 * length bytes
half digits bytes is = (decode_of-ok digits bytes is).2
