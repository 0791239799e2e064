-- What ties the text of a file system to its reading.
use Rattle.std.specs.Prelude.{◌≡◌, ℕ, true, List}
use Rattle.bfs_model.specs.Server.Stored.{IsLive}
use Rattle.bfs_model.specs.Server.Tree.{FileSystem}
use Rattle.bfs_digest.specs.Text.{IsSpellable, Spells, SpellsIn, is_taken, latest_version, oldest_version}

-- a file system has one text in each version
abbrev pub AFileSystemHasOneText : Type 0
AFileSystemHasOneText = (version : ℕ) (files : FileSystem) (one other : List ℕ) → SpellsIn version one files → SpellsIn version other files → one ≡ other

-- a text spells at most one file system, in one version
abbrev pub ATextSpellsOneFileSystem : Type 0
ATextSpellsOneFileSystem = (bytes : List ℕ) (one other : FileSystem) → (a : Spells oldest_version bytes one) (b : Spells oldest_version bytes other) → (one ≡ other) × (a.version ≡ b.version)

-- every live file system has a text, in the latest version
abbrev pub LiveFilesAreSpellable : Type 0
LiveFilesAreSpellable = (files : FileSystem) → IsLive files → IsSpellable latest_version files

-- and so has what an older version spells
abbrev pub OlderTextsAreSpellable : Type 0
OlderTextsAreSpellable = (version : ℕ) (files : FileSystem) → is_taken oldest_version version ≡ true → IsSpellable version files → IsSpellable latest_version files
