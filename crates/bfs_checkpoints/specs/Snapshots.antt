-- Snapshots of a replica.
use Rattle.std.specs.Prelude.{◌≡◌, ℕ, List, Result, Ok, Err}
use Rattle.bfs_model.specs.Server.Stored.{IsLive}
use Rattle.bfs_model.specs.Server.Tree.{FileSystem}
use Rattle.bfs_digest.specs.declared.errors.RestoreError.{RestoreError}
use Rattle.bfs_digest.specs.declared.errors.RestoreError.TheVariants.{Memory}
use Rattle.bfs_replies.specs.Tables.{Table, IsKept}
use Rattle.bfs_checkpoints.specs.Texts.{node_digest, node_text}

-- a text, and a digest
pub record Snapshot : Type 0 where
  pub text : List ℕ
  pub digest : List ℕ

abbrev pub snapshot_of : FileSystem → Table → Snapshot
snapshot_of files table = record { text = node_text files table; digest = node_digest files table }

-- the text of a replica's state, and the digest of the same state
pub record IsSnapshot (snapshot : Snapshot) : Type 0 where
  pub files : FileSystem
  pub table : Table
  pub is : snapshot ≡ snapshot_of files table

-- such a state, whose file system is live: so its text can be read
pub record IsTaken (snapshot : Snapshot) : Type 0 where
  pub files : FileSystem
  pub table : Table
  pub live : IsLive files
  pub kept : IsKept table
  pub is : snapshot ≡ snapshot_of files table

-- it was read, or memory ran out
abbrev pub IsReadAs : Snapshot → Result Snapshot RestoreError → Type 0
IsReadAs snapshot (Ok read) = read ≡ snapshot
IsReadAs snapshot (Err e) = e ≡ Memory
