-- Which requests no gate runs.
use Rattle.std.specs.Prelude.{ℕ, Bool, true, false, List, Option, Some, None, Result, Ok, Err}
use Rattle.bfs_model.specs.Bytes.Call.{Request, Refusal, call_of}
use Rattle.bfs_model.specs.Bytes.Arguments.{Call, rename, file_system_status, arguments_of}

-- calls that may touch any inode: they are carried out on the whole tree, by no gate
abbrev pub is_of_all : Call → Bool
is_of_all (rename from from_name to to_name) = true
is_of_all (file_system_status file) = true
is_of_all call = false

abbrev pub are_of_all : Option Call → Bool
are_of_all None = false
are_of_all (Some call) = is_of_all call

abbrev pub is_read_as_of_all : Result Request Refusal → Bool
is_read_as_of_all (Err refusal) = false
is_read_as_of_all (Ok request) = are_of_all (arguments_of request.procedure request.arguments)

-- whether a request spells RENAME or STATFS
abbrev pub is_alone : (request : List ℕ) → Bool
is_alone bytes = is_read_as_of_all (call_of bytes)
