-- The numbers of refusals, and the code of a machine.
use Rattle.std.specs.Prelude.{ℕ}
use Rattle.bfs_overtaking.specs.declared.errors.CoreError.{CoreError}
use Rattle.bfs_overtaking.specs.declared.errors.CoreError.TheVariants.{NotReady, Taken, NotTaken, NoSuchCall, Memory, Failed}

abbrev pub core_code_of : CoreError → ℕ
core_code_of NotReady = 14
core_code_of Taken = 15
core_code_of NotTaken = 16
core_code_of NoSuchCall = 17
core_code_of Memory = 40
core_code_of Failed = 41
