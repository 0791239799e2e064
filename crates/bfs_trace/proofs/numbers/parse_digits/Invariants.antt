use Rattle.std.proofs.Common.{◌≡◌, ◌≤◌, drop}
use Rattle.bfs_trace.specs.Words.{digits_spelled}
use Rattle.bfs_trace.proofs.Digits.{number_after}
use Rattle.bfs_trace.proofs.numbers.parse_digits.Given as goal

-- the digits that are left give the number of them all
abbrev pub invariant-loop-digit : goal.invariant-loop-digit
invariant-loop-digit l = (number_after l.radix l.max l.value (drop l.digit-index l.word) ≡ digits_spelled l.radix l.max l.word) × (l.value ≤ l.max)
