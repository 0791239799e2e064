-- The numbers of the refusals.
use Rattle.std.specs.Prelude.{ℕ}
use Rattle.bfs_trace.specs.declared.trace.TraceError.{TraceError}
use Rattle.bfs_trace.specs.declared.trace.TraceError.TheVariants as trace

abbrev pub trace_error_code : TraceError → ℕ
trace_error_code (trace.BadLine number) = 37
trace_error_code trace.Memory = 40
