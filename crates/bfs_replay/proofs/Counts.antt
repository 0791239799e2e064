-- How a number of workers is read.
use Rattle.std.proofs.Common.{◌≡◌, ◌∙◌, ◌≤◌, ◌&&◌, ℕ, Bool, true, false, List, [], ◌∷◌, Option, Some, None, Result, Ok, Err, codes, if◌then◌else◌, nat_le, refl, sym, true≢false, arith}
use Rattle.std.specs.Char.{digit_value}
use Rattle.std.specs.Option.{SomeIff}
use Rattle.std.specs.Prelude.{◌==◌}
use Rattle.std.specs.Str.Parse.{AllDigits, IsNumeral, ParsesUnsigned, digits_value, without_leading_plus}
use Rattle.std.proofs.lemmas.Bool.{eqb-false, le-leb, leb-true, lt-ltb, ltb-true, ne_eqb}
use Rattle.clap.specs.Words.{ReadsOne, one_text, rows_of}
use Rattle.clap.specs.declared.parser.matches.Found.{Found}
use Rattle.bfs_model.specs.Bytes.Call.{◌>>=◌}
use Rattle.bfs_trace.specs.Words.{are_digits, digits_spelled, is_digit, number_spelled}
use Rattle.bfs_workers.specs.Workers.{most_workers}
use Rattle.bfs_replay.specs.CommandLine.{workers_among, workers_spelled}
use Rattle.bfs_replay.proofs.CommandLine.{text_in_rows}

-- Digits ---------------------------------------------------------------------------------------------------------------

are_digits-true : (radix : ℕ) (word : List ℕ) → AllDigits radix word → are_digits radix word ≡ true
are_digits-true radix [] digits = refl
are_digits-true radix (byte ∷ bytes) digits = rw (lt-ltb (digit_value byte) radix digits.0) (are_digits-true radix bytes digits.1)

all_digits : (radix : ℕ) (word : List ℕ) → are_digits radix word ≡ true → AllDigits radix word
all_digits radix [] are = tt
all_digits radix (byte ∷ bytes) are = go (is_digit radix byte) refl are (all_digits radix bytes)
  where
    go : (digit : Bool) → is_digit radix byte ≡ digit → (digit && are_digits radix bytes) ≡ true → (are_digits radix bytes ≡ true → AllDigits radix bytes)
        → AllDigits radix (byte ∷ bytes)
    go true is rest behind = (ltb-true (digit_value byte) radix is, behind rest)
    go false is rest behind = absurd (true≢false (sym rest))

-- Numbers --------------------------------------------------------------------------------------------------------------

abbrev up_to : (most : ℕ) → ℕ → Option ℕ
up_to most number = if nat_le number most then Some number else None

numeral_spelled : (most : ℕ) (word : List ℕ) → IsNumeral 10 word → number_spelled most word ≡ up_to most (digits_value 10 word)
unfolding digits_spelled
numeral_spelled most [] numeral = absurd (omega (arith, numeral.0))
numeral_spelled most (byte ∷ bytes) numeral = rw (are_digits-true 10 (byte ∷ bytes) numeral.1) refl

other_spelled : (most : ℕ) (word : List ℕ) → ¬ (IsNumeral 10 word × (digits_value 10 word ≤ most)) → number_spelled most word ≡ None
unfolding digits_spelled
other_spelled most [] other = refl
other_spelled most (byte ∷ bytes) other = go (are_digits 10 (byte ∷ bytes)) refl (nat_le (digits_value 10 (byte ∷ bytes)) most) refl
  where
    go : (digits : Bool) → are_digits 10 (byte ∷ bytes) ≡ digits → (fits : Bool) → nat_le (digits_value 10 (byte ∷ bytes)) most ≡ fits
        → (if digits && fits then Some (digits_value 10 (byte ∷ bytes)) else None) ≡ None
    go false is fits within = refl
    go true is false within = refl
    go true is true within = absurd (other ((omega arith, all_digits 10 (byte ∷ bytes) is), leb-true (digits_value 10 (byte ∷ bytes)) most within))

-- Workers --------------------------------------------------------------------------------------------------------------

none_read : (E : Type 0) (text : List ℕ) (e : E) → ParsesUnsigned {E = E} 32 10 text (Err e) → workers_spelled text ≡ None
none_read E text e parsed = rw (other_spelled most_workers (without_leading_plus text) (λ both. parsed (both.0, omega (arith, both.1)))) refl

abbrev unless_zero : ℕ → Option ℕ
unless_zero count = if count == 0 then None else Some count

fits : (count : ℕ) (made : Option ℕ) → SomeIff made ((1 ≤ count) × (count ≤ most_workers)) count → made ≡ (up_to most_workers count >>= unless_zero)
fits count (Some x) is =
    let some : (count == 0) ≡ false = ne_eqb count 0 (λ zero. omega (arith, zero, is.0.0)) in
    rw (le-leb count most_workers is.0.1, some, is.1) refl
fits count None unfit = go (nat_le count most_workers) refl (count == 0) refl
  where
    go : (fit : Bool) → nat_le count most_workers ≡ fit → (zero : Bool) → (count == 0) ≡ zero
        → None ≡ ((if fit then Some count else None) >>= unless_zero)
    go false within zero is = refl
    go true within true is = rw is refl
    go true within false is = absurd (unfit (omega (arith, eqb-false count 0 is), leb-true count most_workers within))

some_read : (E : Type 0) (text : List ℕ) (count : ℕ) (made : Option ℕ) → ParsesUnsigned {E = E} 32 10 text (Ok count)
    → SomeIff made ((1 ≤ count) × (count ≤ most_workers)) count → made ≡ workers_spelled text
some_read E text count made parsed new =
    rw (numeral_spelled most_workers (without_leading_plus text) parsed.0.0, ← parsed.1) (fits count made new)

-- where no number is read there is none among the rows
pub none_among : {E : Type 0} (G : List ℕ → Result ℕ E → Type 0) (found : Found) (read : Option ℕ)
    → ((u : List ℕ) (x : Result ℕ E) → G u x → ParsesUnsigned {E = E} 32 10 u x) → read ≡ None
    → ((t : List ℕ) → one_text found (codes "workers") ≡ Some t → ReadsOne G t read) → workers_among (rows_of found) ≡ None
none_among {E} G found read only none reads = rw (← text_in_rows found (codes "workers")) (go (one_text found (codes "workers")) refl)
  where
    go : (text : Option (List ℕ)) → one_text found (codes "workers") ≡ text → (text >>= workers_spelled) ≡ None
    go None is = refl
    go (Some t) is =
        let refused : ReadsOne G t None = rw none at reads t is in
        none_read E t refused.0 (only t (Err refused.0) refused.1)

-- the workers that are made of the number that is read are those among the rows
pub some_among : {E : Type 0} (G : List ℕ → Result ℕ E → Type 0) (found : Found) (read : Option ℕ) (count : ℕ) (made : Option ℕ)
    → ((u : List ℕ) (x : Result ℕ E) → G u x → ParsesUnsigned {E = E} 32 10 u x) → read ≡ Some count
    → (one_text found (codes "workers") ≡ None → read ≡ None)
    → ((t : List ℕ) → one_text found (codes "workers") ≡ Some t → ReadsOne G t read)
    → SomeIff made ((1 ≤ count) × (count ≤ most_workers)) count → made ≡ workers_among (rows_of found)
some_among {E} G found read count made only some none reads new = rw (← text_in_rows found (codes "workers")) (go (one_text found (codes "workers")) refl)
  where
    go : (text : Option (List ℕ)) → one_text found (codes "workers") ≡ text → made ≡ (text >>= workers_spelled)
    go None is =
        let bad : None ≡ Some count = sym (none is) ∙ some in
        cc
    go (Some t) is =
        let taken : ReadsOne G t (Some count) = rw some at reads t is in
        some_read E t count made (only t (Ok count) taken) new
