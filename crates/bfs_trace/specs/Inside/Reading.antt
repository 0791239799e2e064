-- How the answer of a reader stands to what the grammar reads.
use Rattle.std.specs.Prelude.{◌≡◌, ⊤, Option, Some, None, Result, Ok, Err}
use Rattle.bfs_trace.specs.declared.fault.Fault.{Fault}
use Rattle.bfs_trace.specs.declared.fault.Fault.TheVariants as fault

-- a value is what the grammar reads, and a fault comes where it reads none; unspecified where memory ran out
abbrev pub Parses : {X Y : Type 0} → (X → Y) → Result X Fault → Option Y → Type 0
Parses view (Ok value) read = read ≡ Some (view value)
Parses view (Err fault.Bad) read = read ≡ None
Parses view (Err fault.Memory) read = ⊤
