-- How what the code reads from a text answers to a reading of the definitions.
use Rattle.std.specs.Prelude.{◌≡◌, ℕ, ◌≤◌, IsTrue, true, List, [], Option, Some, None, Result, Ok, Err}
use Rattle.std.specs.Option.{option_map}
use Rattle.std.specs.List.{AllByRecursion}
use Rattle.std.specs.FinMap.{from_entries}
use Rattle.bfs_model.specs.Server.Tree as model
use Rattle.bfs_model.specs.Server.Stored.{AreBytes, IsTime, IsLive}
use Rattle.bfs_model.specs.Server.Tree.{FileSystem, Inode, root_id, first_ordinal, spent_ordinal}
use Rattle.bfs_model.specs.Server.WellFormed.{BodyIsLimited, IsLimited, IsWellFormed}
use Rattle.bfs_tree.specs.Slots.{Slots}
use Rattle.bfs_tree.specs.Tree.{at_home, reach_of}
use Rattle.bfs_model.specs.Bytes.Formats.{Reading}
use Rattle.bfs_digest.specs.Inside.RecordReading.{Head}
use Rattle.bfs_digest.specs.Text.{Header, is_taken, latest_version}
use Rattle.bfs_digest.specs.Inside.TextReading.{files_with, numbers_from, records_from, version_from}
use Rattle.bfs_digest.specs.declared.readers.EntryText.{EntryText}
use Rattle.bfs_digest.specs.declared.readers.HeadText.{HeadText}

-- it gave what is read, and stands behind it; or nothing can be read
abbrev pub Reads : {X Y E : Type 0} → (X → Y) → Result X E → Reading Y → (new : List ℕ) → Type 0
Reads view (Ok x) reading new = reading ≡ Some (view x, new)
Reads view (Err e) reading new = reading ≡ None

-- it stands behind what is read, whatever that is; or nothing can be read
abbrev pub Skips : {X Y E : Type 0} → Result X E → Reading Y → (new : List ℕ) → Type 0
Skips (Ok x) reading new = option_map (λ read. read.1) reading ≡ Some new
Skips (Err e) reading new = reading ≡ None

abbrev pub entry_seen : EntryText → model.Entry
entry_seen entry = record { cookie = entry.cookie; name = entry.name.now; child = entry.child }

abbrev pub head_seen : HeadText → Head
head_seen head = record { fileid = head.fileid; kind = head.kind; permissions = head.metadata.permissions; links = head.metadata.links; uid = head.metadata.uid; gid = head.metadata.gid; atime = head.metadata.atime; mtime = head.metadata.mtime; ctime = head.metadata.ctime }

-- What is built -------------------------------------------------------------------------------------------------------

-- where something is read, it was built so, and the reader stands behind it; nothing was built where what is read may not be built
abbrev pub Builds : {X Y : Type 0} → (X → Y) → (May : Y → Type 0) → Option X → Reading Y → (new : List ℕ) → Type 0
Builds {X} {Y} view May (Some x) reading new = (y : Y) (rest : List ℕ) → reading ≡ Some (y, rest) → (view x ≡ y) × (new ≡ rest)
Builds {X} {Y} view May None reading new = (y : Y) (rest : List ℕ) → reading ≡ Some (y, rest) → May y → ⊥

-- within the limits of what an inode of some links holds
abbrev pub BodyMayBe : model.Body → Type 0
BodyMayBe body = (links : ℕ) × BodyIsLimited links body

-- a tree of the inodes that are read, and of no others; or not all are within the limits
abbrev pub BuildsTree : Option Slots → Reading (List (ℕ × Inode)) → Type 0
BuildsTree (Some tree) reading = (inodes : List (ℕ × Inode)) (rest : List ℕ) → reading ≡ Some (inodes, rest) → (at_home tree ≡ from_entries inodes) × IsTrue ((reach_of tree).whole)
BuildsTree None reading = (inodes : List (ℕ × Inode)) (rest : List ℕ) → reading ≡ Some (inodes, rest) → AllByRecursion (λ inode. IsLimited inode.1) inodes → ⊥

-- the bytes spell these numbers, and behind them these records of that version, to the end
pub record AreSpelled (version : ℕ) (bytes : List ℕ) (header : Header) (records : List ℕ) : Type 0 where
  pub numbers : numbers_from bytes ≡ Some (header, records)
  pub inodes : List (ℕ × Inode)
  pub read : records_from version header.count root_id records ≡ Some (inodes, [])

-- the bytes are a text of a version that is taken
pub record IsText (oldest : ℕ) (bytes : List ℕ) (header : Header) (records : List ℕ) : Type 0 where
  pub version : ℕ
  pub taken : is_taken oldest version ≡ true
  pub rest : List ℕ
  pub begun : version_from bytes ≡ Some (version, rest)
  pub spelled : AreSpelled version rest header records

-- the numbers of a text, and bytes that spell its records, to the end: what is one of an older version is one of the latest too
pub record AreRecords (header : Header) (records : List ℕ) : Type 0 where
  pub ordinal : (first_ordinal ≤ header.next_ordinal) × (header.next_ordinal ≤ spent_ordinal)
  pub last_time : IsTime header.last_time
  pub bytes : AreBytes records
  pub inodes : List (ℕ × Inode)
  pub read : records_from latest_version header.count root_id records ≡ Some (inodes, [])

-- the file system of the records, and it is live; or it is not well formed
abbrev pub BuildsFiles : Option (Option FileSystem) → Header → (records : List ℕ) → Type 0
BuildsFiles (Some None) header records = ⊥
BuildsFiles (Some (Some files)) header records = ((inodes : List (ℕ × Inode)) (rest : List ℕ) → records_from latest_version header.count root_id records ≡ Some (inodes, rest) → files ≡ files_with header inodes) × IsLive files
BuildsFiles None header records = (inodes : List (ℕ × Inode)) (rest : List ℕ) → records_from latest_version header.count root_id records ≡ Some (inodes, rest) → IsWellFormed (files_with header inodes) → ⊥
