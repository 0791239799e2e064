-- The errors of reading: as the faults of the model, and by their numbers.
use Rattle.std.specs.Prelude.{ℕ}
use Rattle.bfs_model.specs.Bytes.Items.{Fault, short, too_long, bad_boolean, bad_padding}
use Rattle.bfs_xdr.specs.declared.error.XdrError.{XdrError}
use Rattle.bfs_xdr.specs.declared.error.XdrError.TheVariants.{Short, TooLong, BadBool, BadPadding}

abbrev pub fault_of : XdrError → Fault
fault_of Short = short
fault_of TooLong = too_long
fault_of BadBool = bad_boolean
fault_of BadPadding = bad_padding

abbrev pub code_of : XdrError → ℕ
code_of Short = 1
code_of TooLong = 2
code_of BadBool = 3
code_of BadPadding = 4
