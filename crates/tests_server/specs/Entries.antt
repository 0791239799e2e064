-- Entries of a directory that is filled.
use Rattle.std.specs.Prelude.{ℕ, ◌+◌, ◌<◌, ◌≤◌, List, length}
use Rattle.std.specs.List.{AllByRecursion}
use Rattle.bfs_model.specs.Server.Tree.{Entry}
use Rattle.bfs_testing.specs.Letters.{number_of}

-- an entry of a lower number: its name spells it, and the cookies begin at 4
abbrev pub IsBelow : (number : ℕ) → Entry → Type 0
IsBelow number entry = (number_of entry.name < number) × (entry.cookie < 4 + number)

-- at most so many entries, of lower numbers
abbrev pub AreNumbered : (number : ℕ) → List Entry → Type 0
AreNumbered number entries = (length entries ≤ number) × AllByRecursion (IsBelow number) entries
