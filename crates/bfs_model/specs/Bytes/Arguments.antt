-- The arguments of each procedure (RFC 1094 section 2.2) and the bytes that spell them. Padding is not looked at.
use Rattle.std.specs.Prelude.{ℕ, false, List, ◌++◌, length, take, drop, replicate, Option, Some, None, codes, ◌==◌, ◌||◌, if◌then◌else◌}
use Rattle.std.specs.Result.{result_ok}
use Rattle.std.specs.Str.{bytes_eq}
use Rattle.std.specs.Int.{w32, from_be_bytes}
use Rattle.bfs_model.specs.Bytes.Items.{word, word_at, fixed_at, opaque_at}
use Rattle.bfs_model.specs.Server.Tree.{Time}
use Rattle.bfs_model.specs.Bytes.Call.{◌>>=◌}
use Rattle.bfs_model.specs.Server.Limits.{most_name_bytes, most_path_bytes, most_data_bytes}

-- File handles (RFC 1094 section 2.3.3) ----------------------------------------------------------------------------

-- the bytes that make a handle one of ours: `BFS2`, fsid 1, the fileid, and 20 zeros
unfoldable pub handle : ℕ → List ℕ
handle id = codes "BFS2" ++ word 1 ++ word id ++ replicate 20 0

-- the fileid in 32 bytes that are a handle of ours; others name nothing
unfoldable pub handle_id : List ℕ → Option ℕ
handle_id bytes = let id = from_be_bytes w32 (take 4 (drop 8 bytes)) in if bytes_eq bytes (handle id) then Some id else None

-- Settings (RFC 1094 section 2.3.6, sattr) -------------------------------------------------------------------------

-- what a call sets of an inode; None is not set. A time whose useconds are 1,000,000 or more stands for the batch's time
pub record Settings : Type 0 where
  pub mode : Option ℕ
  pub uid : Option ℕ
  pub gid : Option ℕ
  pub size : Option ℕ
  pub atime : Option Time
  pub mtime : Option Time

-- the word that says "not set"
abbrev pub all_ones : ℕ
all_ones = 4294967295

abbrev pub word_set : ℕ → Option ℕ
word_set w = if w == all_ones then None else Some w

abbrev pub time_set : (seconds useconds : ℕ) → Option Time
time_set seconds useconds = if seconds == all_ones || useconds == all_ones then None else Some (record { seconds = seconds; useconds = useconds })

-- Calls ----------------------------------------------------------------------------------------------------------

-- a procedure with its arguments (RFC 1094 section 2.2); a file handle is the fileid that it spells, or None where it is
-- not one of ours
pub data Call : Type 0 where
  null : Call
  get_attributes : (file : Option ℕ) → Call
  set_attributes : (file : Option ℕ) (settings : Settings) → Call
  root : Call
  look_up : (dir : Option ℕ) (name : List ℕ) → Call
  read_link : (file : Option ℕ) → Call
  read : (file : Option ℕ) (offset count : ℕ) → Call
  write_cache : Call
  write : (file : Option ℕ) (offset : ℕ) (bytes : List ℕ) → Call
  create : (dir : Option ℕ) (name : List ℕ) (settings : Settings) → Call
  remove : (dir : Option ℕ) (name : List ℕ) → Call
  rename : (from : Option ℕ) (from_name : List ℕ) (to : Option ℕ) (to_name : List ℕ) → Call
  make_link : (file dir : Option ℕ) (name : List ℕ) → Call
  make_symbolic_link : (dir : Option ℕ) (name path : List ℕ) (settings : Settings) → Call
  make_directory : (dir : Option ℕ) (name : List ℕ) (settings : Settings) → Call
  remove_directory : (dir : Option ℕ) (name : List ℕ) → Call
  read_directory : (dir : Option ℕ) (cookie count : ℕ) → Call
  file_system_status : (file : Option ℕ) → Call

-- Parts of arguments, each with the bytes after it -------------------------------------------------------------------

unfoldable pub handle_at : List ℕ → Option (Option ℕ × List ℕ)
handle_at bytes = do
  item ← result_ok (fixed_at false 32 bytes)
  Some (handle_id item.0, item.1)

-- a name of at most 255 bytes (RFC 1094 section 2.3.7)
abbrev pub name_at : List ℕ → Option (List ℕ × List ℕ)
name_at bytes = result_ok (opaque_at false most_name_bytes bytes)

-- a path of at most 1,024 bytes (RFC 1094 section 2.3.8)
abbrev pub path_at : List ℕ → Option (List ℕ × List ℕ)
path_at bytes = result_ok (opaque_at false most_path_bytes bytes)

-- a file's bytes, at most 8,192 in one call (RFC 1094 sections 2.2.7 and 2.2.9, nfsdata)
abbrev pub data_at : List ℕ → Option (List ℕ × List ℕ)
data_at bytes = result_ok (opaque_at false most_data_bytes bytes)

unfoldable pub settings_at : List ℕ → Option (Settings × List ℕ)
settings_at bytes = do
  mode ← result_ok (word_at bytes)
  uid ← result_ok (word_at mode.1)
  gid ← result_ok (word_at uid.1)
  size ← result_ok (word_at gid.1)
  a_seconds ← result_ok (word_at size.1)
  a_useconds ← result_ok (word_at a_seconds.1)
  m_seconds ← result_ok (word_at a_useconds.1)
  m_useconds ← result_ok (word_at m_seconds.1)
  Some (record { mode = word_set mode.0; uid = word_set uid.0; gid = word_set gid.0; size = word_set size.0; atime = time_set a_seconds.0 a_useconds.0; mtime = time_set m_seconds.0 m_useconds.0 }, m_useconds.1)

-- The forms of arguments -------------------------------------------------------------------------------------------

unfoldable pub file_at : (Option ℕ → Call) → List ℕ → Option (Call × List ℕ)
file_at call bytes = do
  file ← handle_at bytes
  Some (call file.0, file.1)

unfoldable pub named_at : (Option ℕ → List ℕ → Call) → List ℕ → Option (Call × List ℕ)
named_at call bytes = do
  dir ← handle_at bytes
  name ← name_at dir.1
  Some (call dir.0 name.0, name.1)

unfoldable pub named_with_settings_at : (Option ℕ → List ℕ → Settings → Call) → List ℕ → Option (Call × List ℕ)
named_with_settings_at call bytes = do
  dir ← handle_at bytes
  name ← name_at dir.1
  settings ← settings_at name.1
  Some (call dir.0 name.0 settings.0, settings.1)

-- SETATTR (RFC 1094 section 2.2.3)
unfoldable pub set_attributes_at : List ℕ → Option (Call × List ℕ)
set_attributes_at bytes = do
  file ← handle_at bytes
  settings ← settings_at file.1
  Some (set_attributes file.0 settings.0, settings.1)

-- READ (RFC 1094 section 2.2.7): offset, count, and a total count that is not looked at
unfoldable pub read_at : List ℕ → Option (Call × List ℕ)
read_at bytes = do
  file ← handle_at bytes
  offset ← result_ok (word_at file.1)
  count ← result_ok (word_at offset.1)
  total ← result_ok (word_at count.1)
  Some (read file.0 offset.0 count.0, total.1)

-- WRITE (RFC 1094 section 2.2.9): the begin offset and the total count are not looked at
unfoldable pub write_at : List ℕ → Option (Call × List ℕ)
write_at bytes = do
  file ← handle_at bytes
  begin ← result_ok (word_at file.1)
  offset ← result_ok (word_at begin.1)
  total ← result_ok (word_at offset.1)
  written ← data_at total.1
  Some (write file.0 offset.0 written.0, written.1)

-- RENAME (RFC 1094 section 2.2.12)
unfoldable pub rename_at : List ℕ → Option (Call × List ℕ)
rename_at bytes = do
  from ← handle_at bytes
  from_name ← name_at from.1
  to ← handle_at from_name.1
  to_name ← name_at to.1
  Some (rename from.0 from_name.0 to.0 to_name.0, to_name.1)

-- LINK (RFC 1094 section 2.2.13)
unfoldable pub link_at : List ℕ → Option (Call × List ℕ)
link_at bytes = do
  file ← handle_at bytes
  dir ← handle_at file.1
  name ← name_at dir.1
  Some (make_link file.0 dir.0 name.0, name.1)

-- SYMLINK (RFC 1094 section 2.2.14)
unfoldable pub symbolic_link_at : List ℕ → Option (Call × List ℕ)
symbolic_link_at bytes = do
  dir ← handle_at bytes
  name ← name_at dir.1
  path ← path_at name.1
  settings ← settings_at path.1
  Some (make_symbolic_link dir.0 name.0 path.0 settings.0, settings.1)

-- READDIR (RFC 1094 section 2.2.17): a cookie of 4 bytes, and a count
unfoldable pub read_directory_at : List ℕ → Option (Call × List ℕ)
read_directory_at bytes = do
  dir ← handle_at bytes
  cookie ← result_ok (word_at dir.1)
  count ← result_ok (word_at cookie.1)
  Some (read_directory dir.0 cookie.0 count.0, count.1)

-- a procedure's arguments by its number, and the bytes after them
unfoldable pub fields_at : ℕ → List ℕ → Option (Call × List ℕ)
fields_at procedure bytes =
    if procedure == 0 then Some (null, bytes) else (
    if procedure == 1 then file_at get_attributes bytes else (
    if procedure == 2 then set_attributes_at bytes else (
    if procedure == 3 then Some (root, bytes) else (
    if procedure == 4 then named_at look_up bytes else (
    if procedure == 5 then file_at read_link bytes else (
    if procedure == 6 then read_at bytes else (
    if procedure == 7 then Some (write_cache, bytes) else (
    if procedure == 8 then write_at bytes else (
    if procedure == 9 then named_with_settings_at create bytes else (
    if procedure == 10 then named_at remove bytes else (
    if procedure == 11 then rename_at bytes else (
    if procedure == 12 then link_at bytes else (
    if procedure == 13 then symbolic_link_at bytes else (
    if procedure == 14 then named_with_settings_at make_directory bytes else (
    if procedure == 15 then named_at remove_directory bytes else (
    if procedure == 16 then read_directory_at bytes else (
    if procedure == 17 then file_at file_system_status bytes else None)))))))))))))))))

-- the call that a procedure's number and the bytes of its arguments spell, with nothing after them
unfoldable pub arguments_of : ℕ → List ℕ → Option Call
arguments_of procedure bytes = do
  fields ← fields_at procedure bytes
  if length fields.1 == 0 then Some fields.0 else None
