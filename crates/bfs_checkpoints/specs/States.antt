-- The text of a state whose file system is live or has failed (this project's profile).
use Rattle.std.specs.Prelude.{◌≡◌, ℕ, List, [], ◌++◌, Option, Some, None, Result, Ok, Err}
use Rattle.bfs_model.specs.Server.Tree.{FileSystem}
use Rattle.bfs_digest.specs.Text.{snapshot_text}
use Rattle.bfs_digest.specs.declared.errors.RestoreError.{RestoreError}
use Rattle.bfs_digest.specs.declared.errors.RestoreError.TheVariants.{Memory}
use Rattle.bfs_replies.specs.Tables.{Table}
use Rattle.bfs_replies.specs.Texts.{table_text}

-- of one that has failed nothing is left
abbrev pub files_text : Option FileSystem → List ℕ
files_text None = []
files_text (Some files) = snapshot_text files

-- as of a replica, where the file system is live
abbrev pub state_text : Option FileSystem → Table → List ℕ
state_text files table = table_text table ++ files_text files

-- these were read, or memory ran out
abbrev pub AreFilesReadAs : Option FileSystem → Result (Option FileSystem) RestoreError → Type 0
AreFilesReadAs files (Ok read) = read ≡ files
AreFilesReadAs files (Err e) = e ≡ Memory

abbrev pub IsStateReadAs : Option FileSystem → Table → Result (Option FileSystem × Table) RestoreError → Type 0
IsStateReadAs files table (Ok read) = (read.0 ≡ files) × (read.1 ≡ table)
IsStateReadAs files table (Err e) = e ≡ Memory
