-- The text of a file system (this file system's profile), in the items of XDR (RFC 4506 section 4). It has two versions: the older one
-- is read alone, the latest one is written too.
use Rattle.std.specs.Prelude.{◌≡◌, ℕ, ◌≤◌, Bool, true, ◌&&◌, List, ◌++◌, Some, nat_le}
use Rattle.std.specs.List.{flat_map}
use Rattle.std.specs.FinMap.{get, entries, len}
use Rattle.bfs_model.specs.Bytes.Items.{word, hyper}
use Rattle.bfs_model.specs.Server.Stored.{IsTime}
use Rattle.bfs_model.specs.Server.Tree.{Time, Inode, FileSystem, first_ordinal, spent_ordinal}
use Rattle.bfs_inode.specs.Records.{record_text}
use Rattle.bfs_digest.specs.Records.{IsRecordable}

-- the word in front of every text, whose bytes are `BFSS`
abbrev pub magic : ℕ
magic = 0x42465353

abbrev pub oldest_version : ℕ
oldest_version = 1

abbrev pub latest_version : ℕ
latest_version = 2

-- the versions that are taken where none below that one is
abbrev pub is_taken : (oldest version : ℕ) → Bool
is_taken oldest version = nat_le oldest version && nat_le version latest_version

-- what stands in front of the records
pub record Header : Type 0 where
  pub next_ordinal : ℕ
  pub last_time : Time
  -- of the inodes
  pub count : ℕ

abbrev pub header_of : FileSystem → Header
header_of files = record { next_ordinal = files.next_ordinal; last_time = files.last_time; count = len files.tree }

-- behind the version: the next ordinal, the last time as a timeval (RFC 1094 section 2.3.4), and the number of inodes
abbrev pub numbers_text : Header → List ℕ
numbers_text header = hyper header.next_ordinal ++ (word header.last_time.seconds ++ word header.last_time.useconds) ++ word header.count

abbrev pub header_text : (version : ℕ) → Header → List ℕ
header_text version header = word magic ++ word version ++ numbers_text header

-- by rising fileid
abbrev pub records_text : List (ℕ × Inode) → List ℕ
records_text inodes = flat_map (λ inode. record_text inode.0 inode.1) inodes

-- in that version
unfoldable pub text_in : (version : ℕ) → FileSystem → List ℕ
text_in version files = header_text version (header_of files) ++ records_text (entries files.tree)

-- the text that is written
abbrev pub snapshot_text : FileSystem → List ℕ
snapshot_text files = text_in latest_version files

-- what a text of that version can spell, whether or not it is well formed
pub record IsSpellable (version : ℕ) (files : FileSystem) : Type 0 where
  pub inodes : (id : ℕ) (inode : Inode) → get files.tree id ≡ Some inode → IsRecordable version id inode
  pub ordinal : (first_ordinal ≤ files.next_ordinal) × (files.next_ordinal ≤ spent_ordinal)
  pub last_time : IsTime files.last_time

-- the bytes are the text of the file system in that version
pub record SpellsIn (version : ℕ) (bytes : List ℕ) (files : FileSystem) : Type 0 where
  pub spellable : IsSpellable version files
  pub spelled : bytes ≡ text_in version files

-- in a version that is taken
pub record Spells (oldest : ℕ) (bytes : List ℕ) (files : FileSystem) : Type 0 where
  pub version : ℕ
  pub taken : is_taken oldest version ≡ true
  pub text : SpellsIn version bytes files
