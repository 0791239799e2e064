-- The numbers of refusals.
use Rattle.std.specs.Prelude.{ℕ}
use Rattle.bfs_handover.specs.declared.results.MergeError.{MergeError}
use Rattle.bfs_handover.specs.declared.results.MergeError.TheVariants as error

abbrev pub merge_code_of : MergeError → ℕ
merge_code_of error.Stranger = 18
merge_code_of error.Double = 19
merge_code_of error.Missing = 38
merge_code_of error.Memory = 40
