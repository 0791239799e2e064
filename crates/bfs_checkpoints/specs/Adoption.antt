-- What `adopt` makes of bytes.
use Rattle.std.specs.Prelude.{◌≡◌, ℕ, List, Option, Some}
use Rattle.std.specs.Option.{option_map}
use Rattle.bfs_model.specs.Server.Stored.{IsLive}
use Rattle.bfs_model.specs.Server.Tree.{FileSystem}
use Rattle.bfs_digest.specs.declared.errors.RestoreError.{RestoreError}
use Rattle.bfs_digest.specs.declared.errors.RestoreError.TheVariants as restore
use Rattle.bfs_replies.specs.Tables.{Table}
use Rattle.bfs_checkpoints.specs.Texts.{SpellsNode, node_digest}
use Rattle.bfs_checkpoints.specs.declared.adoption.AdoptError.{AdoptError}
use Rattle.bfs_checkpoints.specs.declared.adoption.AdoptError.TheVariants as error

abbrev pub code_of : AdoptError → ℕ
code_of error.Malformed = 20
code_of error.NotWellFormed = 21
code_of error.WrongVersion = 22
code_of error.DigestDiffers = 35
code_of error.Memory = 40

-- what can't be read is not taken over
abbrev pub refusal_of : RestoreError → AdoptError
refusal_of restore.Malformed = error.Malformed
refusal_of restore.WrongVersion = error.WrongVersion
refusal_of restore.NotWellFormed = error.NotWellFormed
refusal_of restore.Memory = error.Memory

-- a live file system and a table have that digest
abbrev pub HasDigest : Option FileSystem → Table → (digest : List ℕ) → Type 0
HasDigest files table digest = option_map (λ live. node_digest live table) files ≡ Some digest

-- the bytes can be read, and what is read has another digest
pub record HasOtherDigest (clients : ℕ) (bytes digest : List ℕ) : Type 0 where
  pub files : FileSystem
  pub table : Table
  pub spells : SpellsNode clients bytes files table
  pub live : IsLive files
  pub other : node_digest files table ≡ digest → ⊥
