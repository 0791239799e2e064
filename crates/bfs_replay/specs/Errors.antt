-- The numbers of the refusals, and how the program ends where its work is not done.
use Rattle.std.specs.Prelude.{ℕ}
use Rattle.bfs_replay.specs.declared.failure.Failure.{Failure}
use Rattle.bfs_replay.specs.declared.failure.Failure.TheVariants.{Usage, Input, Config, Output, Line, Memory, Differ}
use Rattle.bfs_replay.specs.declared.run.ReplayError.{ReplayError}
use Rattle.bfs_replay.specs.declared.run.ReplayError.TheVariants as run
use Rattle.bfs_settings.specs.declared.error.SettingsError.{SettingsError}
use Rattle.bfs_settings.specs.declared.error.SettingsError.TheVariants as settings
use Rattle.bfs_trace.specs.declared.trace.TraceError.{TraceError}
use Rattle.bfs_trace.specs.declared.trace.TraceError.TheVariants as trace
use Rattle.bfs_replay.specs.declared.usage.UsageError.{UsageError}
use Rattle.bfs_replay.specs.declared.usage.UsageError.TheVariants as usage

abbrev pub replay_error_code : ReplayError → ℕ
replay_error_code run.WriteFault = 39
replay_error_code run.Memory = 40

abbrev pub usage_error_code : UsageError → ℕ
usage_error_code usage.Usage = 42
usage_error_code usage.Memory = 40

abbrev pub exit_status : Failure → ℕ
exit_status Differ = 1
exit_status Usage = 2
exit_status Input = 2
exit_status Config = 2
exit_status Output = 2
exit_status (Line number) = 3
exit_status Memory = 4

abbrev pub failure_of_options : UsageError → Failure
failure_of_options usage.Usage = Usage
failure_of_options usage.Memory = Memory

abbrev pub failure_of_settings : SettingsError → Failure
failure_of_settings settings.BadSettings = Config
failure_of_settings settings.Memory = Memory

abbrev pub failure_of_trace : TraceError → Failure
failure_of_trace (trace.BadLine number) = Line number
failure_of_trace trace.Memory = Memory

abbrev pub failure_of_run : ReplayError → Failure
failure_of_run run.WriteFault = Output
failure_of_run run.Memory = Memory
