-- How a record of a text is read, strictly. It is proved that this reads just what is spelled, so nothing here has to be believed.
use Rattle.std.specs.Prelude.{ℕ, zero, suc, ◌+◌, ◌==◌, ◌||◌, List, [], ◌∷◌, Some, None, nat_lt, if◌then◌else◌}
use Rattle.bfs_model.specs.Bytes.Call.{◌>>=◌}
use Rattle.bfs_model.specs.Bytes.Formats.{Reading, word_from, bytes_from}
use Rattle.bfs_model.specs.Server.Limits.{most_name_bytes, most_path_bytes, most_entries}
use Rattle.bfs_model.specs.Server.Tree.{Time, Entry, Listing, Body, file, directory, link, Inode, root_id, first_ordinal}
use Rattle.bfs_digest.specs.Records.{most_bytes_in}

unfoldable pub time_from : List ℕ → Reading Time
time_from bytes = do
  seconds ← word_from bytes
  useconds ← word_from seconds.1
  if nat_lt useconds.0 1000000 then Some (record { seconds = seconds.0; useconds = useconds.0 }, useconds.1) else None

unfoldable pub entry_from : List ℕ → Reading Entry
entry_from bytes = do
  cookie ← word_from bytes
  name ← bytes_from most_name_bytes cookie.1
  child ← word_from name.1
  Some (record { cookie = cookie.0; name = name.0; child = child.0 }, child.1)

-- so many entries, whose cookies rise from the least on
unfoldable pub entries_from : (count least : ℕ) → List ℕ → Reading (List Entry)
entries_from zero least bytes = Some ([], bytes)
entries_from (suc count) least bytes = do
  entry ← entry_from bytes
  entries ← if nat_lt entry.0.cookie least then None else entries_from count (entry.0.cookie + 1) entry.1
  Some (entry.0 ∷ entries.0, entries.1)

unfoldable pub listing_from : List ℕ → Reading Listing
listing_from bytes = do
  parent ← word_from bytes
  count ← word_from parent.1
  entries ← if nat_lt most_entries count.0 then None else entries_from count.0 first_ordinal count.1
  Some (record { parent = parent.0; entries = entries.0 }, entries.1)

unfoldable pub file_from : (version : ℕ) → List ℕ → Reading Body
file_from version bytes = do
  contents ← bytes_from (most_bytes_in version) bytes
  Some (file contents.0, contents.1)

unfoldable pub directory_from : List ℕ → Reading Body
directory_from bytes = do
  listing ← listing_from bytes
  Some (directory listing.0, listing.1)

unfoldable pub link_from : List ℕ → Reading Body
link_from bytes = do
  path ← bytes_from most_path_bytes bytes
  Some (link path.0, path.1)

-- what an inode of that type holds, in that version
unfoldable pub body_from : (version kind : ℕ) → List ℕ → Reading Body
body_from version kind bytes = if kind == 1 then file_from version bytes else (if kind == 2 then directory_from bytes else (if kind == 5 then link_from bytes else None))

-- what stands in front of what an inode holds
pub record Head : Type 0 where
  pub fileid : ℕ
  pub kind : ℕ
  pub permissions : ℕ
  pub links : ℕ
  pub uid : ℕ
  pub gid : ℕ
  pub atime : Time
  pub mtime : Time
  pub ctime : Time

unfoldable pub head_from : List ℕ → Reading Head
head_from bytes = do
  fileid ← word_from bytes
  kind ← word_from fileid.1
  permissions ← word_from kind.1
  links ← word_from permissions.1
  uid ← word_from links.1
  gid ← word_from uid.1
  atime ← time_from gid.1
  mtime ← time_from atime.1
  ctime ← time_from mtime.1
  if nat_lt fileid.0 root_id || nat_lt 4095 permissions.0 then None else
      Some (record { fileid = fileid.0; kind = kind.0; permissions = permissions.0; links = links.0; uid = uid.0; gid = gid.0; atime = atime.0; mtime = mtime.0; ctime = ctime.0 }, ctime.1)

abbrev pub with_body : Head → Body → Inode
with_body head body = record { permissions = head.permissions; links = head.links; uid = head.uid; gid = head.gid; atime = head.atime; mtime = head.mtime; ctime = head.ctime; body = body }

-- the fileid and the inode
unfoldable pub record_from : (version : ℕ) → List ℕ → Reading (ℕ × Inode)
record_from version bytes = do
  head ← head_from bytes
  body ← body_from version head.0.kind head.1
  Some ((head.0.fileid, with_body head.0 body.0), body.1)
