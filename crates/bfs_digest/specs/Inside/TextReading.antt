-- How a text is read, strictly. It is proved that this reads just the texts that are written, so nothing here has to be believed.
use Rattle.std.specs.Prelude.{ℕ, zero, suc, ◌+◌, ◌==◌, Bool, ◌||◌, List, [], ◌∷◌, length, Option, Some, None, nat_lt, if◌then◌else◌}
use Rattle.std.specs.FinMap.{from_entries}
use Rattle.bfs_model.specs.Bytes.Call.{◌>>=◌}
use Rattle.bfs_model.specs.Server.Tree.{Inode, FileSystem, root_id, first_ordinal, spent_ordinal}
use Rattle.bfs_digest.specs.Text.{Header, magic}
use Rattle.bfs_model.specs.Bytes.Formats.{Reading, word_from, hyper_from}
use Rattle.bfs_digest.specs.Inside.RecordReading.{time_from, record_from}

-- so many records, whose fileids rise from the least on
unfoldable pub records_from : (version count least : ℕ) → List ℕ → Reading (List (ℕ × Inode))
records_from version zero least bytes = Some ([], bytes)
records_from version (suc count) least bytes = do
  inode ← record_from version bytes
  inodes ← if nat_lt inode.0.0 least then None else records_from version count (inode.0.0 + 1) inode.1
  Some (inode.0 ∷ inodes.0, inodes.1)

-- what stands between the version and the records
unfoldable pub numbers_from : List ℕ → Reading Header
numbers_from bytes = do
  next_ordinal ← hyper_from bytes
  last_time ← time_from next_ordinal.1
  count ← word_from last_time.1
  if nat_lt next_ordinal.0 first_ordinal || nat_lt spent_ordinal next_ordinal.0 then None else
      Some (record { next_ordinal = next_ordinal.0; last_time = last_time.0; count = count.0 }, count.1)

-- the version of a text
unfoldable pub version_from : List ℕ → Reading ℕ
version_from bytes = do
  first ← word_from bytes
  version ← word_from first.1
  if first.0 == magic then Some version else None

abbrev pub is_nothing : List ℕ → Bool
is_nothing bytes = length bytes == 0

abbrev pub files_with : Header → List (ℕ × Inode) → FileSystem
files_with header inodes = record { tree = from_entries inodes; next_ordinal = header.next_ordinal; last_time = header.last_time }

-- the file system that bytes spell behind that version, to their end
unfoldable pub files_from : (version : ℕ) → List ℕ → Option FileSystem
files_from version bytes = do
  numbers ← numbers_from bytes
  inodes ← records_from version numbers.0.count root_id numbers.1
  if is_nothing inodes.1 then Some (files_with numbers.0 inodes.0) else None
