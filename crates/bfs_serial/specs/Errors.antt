-- The numbers of refusals.
use Rattle.std.specs.Prelude.{ℕ}
use Rattle.bfs_serial.specs.declared.batches.PushError.{PushError}
use Rattle.bfs_serial.specs.declared.batches.PushError.TheVariants as push
use Rattle.bfs_serial.specs.declared.executor.ExecError.{ExecError}
use Rattle.bfs_serial.specs.declared.executor.ExecError.TheVariants as exec

abbrev pub push_code_of : PushError → ℕ
push_code_of push.RequestTooLong = 12
push_code_of push.BatchFull = 13
push_code_of push.Memory = 40

abbrev pub exec_code_of : ExecError → ℕ
exec_code_of exec.Failed = 41
exec_code_of exec.Memory = 40
