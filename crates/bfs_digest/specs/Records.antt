-- What the record of an inode in a text can spell (this file system's profile).
use Rattle.std.specs.Prelude.{ℕ, ◌==◌, ◌≤◌, length, if◌then◌else◌}
use Rattle.std.specs.List.{AllByRecursion}
use Rattle.bfs_model.specs.Server.Limits.{most_name_bytes, most_path_bytes, most_entries}
use Rattle.bfs_model.specs.Server.Stored.{IsWord, AreBytes, IsTime, EntryIsStorable}
use Rattle.bfs_model.specs.Server.Tree.{Entry, Body, file, directory, link, Inode, root_id, first_ordinal, spent_ordinal}
use Rattle.bfs_model.specs.Server.WellFormed.{IsRising}

-- Whether or not a well-formed file system holds it.

-- the bytes of a file in a text of that version, at most: this does not change where the limit of files does
abbrev pub most_bytes_in : (version : ℕ) → ℕ
most_bytes_in version = if version == 1 then 1048576 else 16777216

pub record EntryIsRecordable (entry : Entry) : Type 0 where
  pub storable : EntryIsStorable entry
  pub name : length entry.name ≤ most_name_bytes

abbrev pub BodyIsRecordable : (version : ℕ) → Body → Type 0
BodyIsRecordable version (file bytes) = AreBytes bytes × (length bytes ≤ most_bytes_in version)
BodyIsRecordable version (directory listing) =
    IsWord listing.parent × (length listing.entries ≤ most_entries) × IsRising first_ordinal listing.entries spent_ordinal × AllByRecursion EntryIsRecordable listing.entries
BodyIsRecordable version (link path) = AreBytes path × (length path ≤ most_path_bytes)

pub record IsRecordable (version id : ℕ) (inode : Inode) : Type 0 where
  pub fileid : (root_id ≤ id) × IsWord id
  pub permissions : inode.permissions ≤ 4095
  pub links : IsWord inode.links
  pub uid : IsWord inode.uid
  pub gid : IsWord inode.gid
  pub atime : IsTime inode.atime
  pub mtime : IsTime inode.mtime
  pub ctime : IsTime inode.ctime
  pub body : BodyIsRecordable version inode.body
