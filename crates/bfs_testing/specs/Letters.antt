-- Letters as the digits of a number.
use Rattle.std.specs.Prelude.{ℕ, ◌+◌, ◌*◌, ◌-◌, List, [], ◌∷◌}

-- what letters spell behind a number, by digits from `a` for 0 to `p` for 15
abbrev pub spelled_behind : (number : ℕ) → (letters : List ℕ) → ℕ
spelled_behind number [] = number
spelled_behind number (letter ∷ letters) = spelled_behind (16 * number + (letter - 97)) letters

abbrev pub number_of : (letters : List ℕ) → ℕ
number_of letters = spelled_behind 0 letters
