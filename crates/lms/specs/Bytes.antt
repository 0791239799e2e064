-- Numbers and hashes among bytes.
use Rattle.std.specs.Prelude.{ℕ, ◌*◌, List, take, drop}
use Rattle.std.specs.Int.{from_be_bytes, w32}

-- the number in the four bytes from a place on
abbrev pub word_at : (place : ℕ) → List ℕ → ℕ
word_at place bytes = from_be_bytes w32 (take 4 (drop place bytes))

-- the hash of that number, where hashes stand one behind another
abbrev pub hash_at : (number : ℕ) → List ℕ → List ℕ
hash_at number hashes = take 32 (drop (32 * number) hashes)
