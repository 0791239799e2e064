-- The lines of a text, one after another.
use Rattle.std.proofs.Common.{ℕ, ◌+◌, List, Option, Some, None, length}

abbrev pub bytes_left : Option (List ℕ) → ℕ
bytes_left None = 0
bytes_left (Some text) = length text + 1
