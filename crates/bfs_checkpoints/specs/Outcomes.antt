-- What `read_node` makes of bytes.
use Rattle.std.specs.Prelude.{◌≡◌, ℕ, List, ◌++◌, length, Option, Some, None}
use Rattle.bfs_model.specs.Server.Stored.{IsLive}
use Rattle.bfs_model.specs.Server.Tree.{FileSystem}
use Rattle.bfs_model.specs.Server.WellFormed.{IsWellFormed}
use Rattle.bfs_digest.specs.Outcomes.{HasOtherVersion}
use Rattle.bfs_digest.specs.Text.{latest_version}
use Rattle.bfs_replies.specs.Tables.{Table, IsKept}
use Rattle.bfs_replies.specs.Texts.{table_text}
use Rattle.bfs_checkpoints.specs.Texts.{SpellsNode}

-- a table of so many clients and a live file system, whose text the bytes are
abbrev pub IsRead : (clients : ℕ) → (bytes : List ℕ) → Option FileSystem → Table → Type 0
IsRead clients bytes None table = ⊥
IsRead clients bytes (Some files) table = SpellsNode clients bytes files table × IsLive files

-- behind the text of a table of so many clients, they begin as a text of another version than the latest
pub record NodeHasOtherVersion (clients : ℕ) (bytes : List ℕ) : Type 0 where
  pub table : Table
  pub rest : List ℕ
  pub clients_are : length table ≡ clients
  pub kept : IsKept table
  pub spelled : bytes ≡ table_text table ++ rest
  pub other : HasOtherVersion latest_version rest

-- neither that, nor the text of a table of so many clients and of a file system, well formed or not
abbrev pub NodeIsMalformed : (clients : ℕ) → (bytes : List ℕ) → Type 0
NodeIsMalformed clients bytes = (NodeHasOtherVersion clients bytes → ⊥) × ((files : FileSystem) (table : Table) → SpellsNode clients bytes files table → ⊥)

pub record SpellsIllFormedNode (clients : ℕ) (bytes : List ℕ) : Type 0 where
  pub files : FileSystem
  pub table : Table
  pub spells : SpellsNode clients bytes files table
  pub ill_formed : IsWellFormed files → ⊥
