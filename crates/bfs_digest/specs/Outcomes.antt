-- What is made of bytes by who takes texts of the versions from the oldest on.
use Rattle.std.specs.Prelude.{◌≡◌, ℕ, false, List, ◌++◌, Option, Some, None}
use Rattle.bfs_model.specs.Bytes.Items.{word}
use Rattle.bfs_model.specs.Server.Stored.{IsWord, IsLive}
use Rattle.bfs_model.specs.Server.Tree.{FileSystem}
use Rattle.bfs_model.specs.Server.WellFormed.{IsWellFormed}
use Rattle.bfs_digest.specs.Text.{magic, is_taken, Spells}
use Rattle.bfs_digest.specs.declared.errors.RestoreError.{RestoreError}
use Rattle.bfs_digest.specs.declared.errors.RestoreError.TheVariants as error

abbrev pub code_of : RestoreError → ℕ
code_of error.Malformed = 20
code_of error.NotWellFormed = 21
code_of error.WrongVersion = 22
code_of error.Memory = 40

-- a live file system, whose text the bytes are
abbrev pub IsRestored : (oldest : ℕ) → List ℕ → Option FileSystem → Type 0
IsRestored oldest bytes None = ⊥
IsRestored oldest bytes (Some files) = Spells oldest bytes files × IsLive files

-- they begin as a text of a version that is not taken
pub record HasOtherVersion (oldest : ℕ) (bytes : List ℕ) : Type 0 where
  pub number : ℕ
  pub rest : List ℕ
  pub spelled : bytes ≡ word magic ++ (word number ++ rest)
  pub small : IsWord number
  pub other : is_taken oldest number ≡ false

-- they neither begin so, nor are the text of a file system, well formed or not
abbrev pub IsMalformed : (oldest : ℕ) → List ℕ → Type 0
IsMalformed oldest bytes = (HasOtherVersion oldest bytes → ⊥) × ((files : FileSystem) → Spells oldest bytes files → ⊥)

pub record SpellsIllFormed (oldest : ℕ) (bytes : List ℕ) : Type 0 where
  pub files : FileSystem
  pub spells : Spells oldest bytes files
  pub ill_formed : IsWellFormed files → ⊥
