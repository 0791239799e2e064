-- What `parse_trace` makes of a text.
use Rattle.std.specs.Prelude.{ℕ, ◌≡◌, List, Result, Ok, Err, IsOk}
use Rattle.bfs_trace.specs.declared.events.TraceEvent.{TraceEvent}
use Rattle.bfs_trace.specs.declared.trace.Trace.{Trace}
use Rattle.bfs_trace.specs.declared.trace.TraceError.{TraceError}
use Rattle.bfs_trace.specs.declared.trace.TraceError.TheVariants as error

-- a trace has the events that the grammar reads, and a bad line is the first that breaks it; memory ran out only where none does
abbrev pub ParsesTrace : Result Trace TraceError → Result (List TraceEvent) ℕ → Type 0
ParsesTrace (Ok trace) read = read ≡ Ok trace
ParsesTrace (Err (error.BadLine number)) read = read ≡ Err number
ParsesTrace (Err error.Memory) read = IsOk read
