-- Words and numbers: what the lines of a trace are made of.
use Rattle.std.specs.Prelude.{ℕ, ◌+◌, ◌*◌, ◌==◌, ◌&&◌, Bool, List, [], ◌∷◌, Option, Some, None, nat_le, nat_lt, if◌then◌else◌}
use Rattle.std.specs.Char.{digit_value}
use Rattle.std.specs.List.{list_all, slice_split}
use Rattle.std.specs.Str.Parse.{digits_value}

-- the parts of a text between the bytes `at`; a text with none of these bytes is its one part
unfoldable pub parts : ℕ → List ℕ → List (List ℕ)
parts at text = slice_split (λ b. b == at) text

-- the parts of what is left of a text, if anything is
abbrev pub parts_left : ℕ → Option (List ℕ) → List (List ℕ)
parts_left at None = []
parts_left at (Some text) = parts at text

-- the next word, and those behind it
abbrev pub word_in : List (List ℕ) → Option (List ℕ × List (List ℕ))
word_in [] = None
word_in (word ∷ words) = Some (word, words)

-- a value, where no word is left
abbrev pub unless_more : {A : Type 0} → List (List ℕ) → A → Option A
unless_more [] value = Some value
unless_more (word ∷ words) value = None

-- the word that stands alone
abbrev pub only_word : List (List ℕ) → Option (List ℕ)
only_word (word ∷ []) = Some word
only_word _ = None

-- a digit of the radix, which is at most 10
abbrev pub is_digit : (radix : ℕ) → ℕ → Bool
is_digit radix byte = nat_lt (digit_value byte) radix

abbrev pub are_digits : (radix : ℕ) → List ℕ → Bool
are_digits radix word = list_all (is_digit radix) word

-- the number that one or more digits of the radix spell, leading zeros among them, where it is at most `max`
unfoldable pub digits_spelled : (radix max : ℕ) → List ℕ → Option ℕ
digits_spelled radix max [] = None
digits_spelled radix max word = if are_digits radix word && nat_le (digits_value radix word) max then Some (digits_value radix word) else None

-- the number that decimal digits spell, where it is at most `max`
abbrev pub number_spelled : (max : ℕ) → List ℕ → Option ℕ
number_spelled max word = digits_spelled 10 max word

-- the number with a digit behind it, where the byte is one and the number is at most `max`
unfoldable pub with_digit : (radix max value byte : ℕ) → Option ℕ
with_digit radix max value byte =
    if is_digit radix byte && nat_le (value * radix + digit_value byte) max then Some (value * radix + digit_value byte) else None
