-- The verbs of a request: the procedure that each names, and the call that the words behind it spell.
use Rattle.std.specs.Prelude.{ℕ, ◌==◌, List, Option, Some, None, bytes_eq, codes, if◌then◌else◌}
use Rattle.bfs_model.specs.Bytes.Arguments.{Call, Settings, null, get_attributes, set_attributes, root, look_up, read_link, read, write_cache, write, create, remove, rename, make_link, make_symbolic_link, make_directory, remove_directory, read_directory, file_system_status}
use Rattle.bfs_model.specs.Bytes.Call.{◌>>=◌}
use Rattle.bfs_trace.specs.Operands.{data_in, file_in, number_in, settings_in, text_in}
use Rattle.bfs_trace.specs.Words.{unless_more}

-- The forms of words -------------------------------------------------------------------------------------------------

-- `H`
unfoldable pub file_words : (Option ℕ → Call) → List (List ℕ) → Option Call
file_words call words = do
  file ← file_in words
  unless_more file.1 (call (Some file.0))

-- `H NAME`
unfoldable pub named_words : (Option ℕ → List ℕ → Call) → List (List ℕ) → Option Call
named_words call words = do
  dir ← file_in words
  name ← text_in dir.1
  unless_more name.1 (call (Some dir.0) name.0)

-- `H NAME SATTR`
unfoldable pub named_with_settings_words : (Option ℕ → List ℕ → Settings → Call) → List (List ℕ) → Option Call
named_with_settings_words call words = do
  dir ← file_in words
  name ← text_in dir.1
  settings ← settings_in name.1
  unless_more settings.1 (call (Some dir.0) name.0 settings.0)

-- `setattr H SATTR`
unfoldable pub set_attributes_words : List (List ℕ) → Option Call
set_attributes_words words = do
  file ← file_in words
  settings ← settings_in file.1
  unless_more settings.1 (set_attributes (Some file.0) settings.0)

-- `read H OFFSET COUNT`
unfoldable pub read_words : List (List ℕ) → Option Call
read_words words = do
  file ← file_in words
  offset ← number_in file.1
  count ← number_in offset.1
  unless_more count.1 (read (Some file.0) offset.0 count.0)

-- `write H OFFSET BYTES`
unfoldable pub write_words : List (List ℕ) → Option Call
write_words words = do
  file ← file_in words
  offset ← number_in file.1
  bytes ← data_in offset.1
  unless_more bytes.1 (write (Some file.0) offset.0 bytes.0)

-- `rename H NAME H NAME`
unfoldable pub rename_words : List (List ℕ) → Option Call
rename_words words = do
  from ← file_in words
  from_name ← text_in from.1
  to ← file_in from_name.1
  to_name ← text_in to.1
  unless_more to_name.1 (rename (Some from.0) from_name.0 (Some to.0) to_name.0)

-- `link H H NAME`: the file, and the directory with the new name
unfoldable pub link_words : List (List ℕ) → Option Call
link_words words = do
  file ← file_in words
  dir ← file_in file.1
  name ← text_in dir.1
  unless_more name.1 (make_link (Some file.0) (Some dir.0) name.0)

-- `symlink H NAME PATH SATTR`
unfoldable pub symbolic_link_words : List (List ℕ) → Option Call
symbolic_link_words words = do
  dir ← file_in words
  name ← text_in dir.1
  path ← text_in name.1
  settings ← settings_in path.1
  unless_more settings.1 (make_symbolic_link (Some dir.0) name.0 path.0 settings.0)

-- `readdir H COOKIE COUNT`
unfoldable pub read_directory_words : List (List ℕ) → Option Call
read_directory_words words = do
  dir ← file_in words
  cookie ← number_in dir.1
  count ← number_in cookie.1
  unless_more count.1 (read_directory (Some dir.0) cookie.0 count.0)

-- Verbs --------------------------------------------------------------------------------------------------------------

-- the number of the procedure that a verb names (RFC 1094 section 2.2)
unfoldable pub procedure_named : List ℕ → Option ℕ
procedure_named verb =
    if bytes_eq verb (codes "null") then Some 0 else (
    if bytes_eq verb (codes "getattr") then Some 1 else (
    if bytes_eq verb (codes "setattr") then Some 2 else (
    if bytes_eq verb (codes "root") then Some 3 else (
    if bytes_eq verb (codes "lookup") then Some 4 else (
    if bytes_eq verb (codes "readlink") then Some 5 else (
    if bytes_eq verb (codes "read") then Some 6 else (
    if bytes_eq verb (codes "writecache") then Some 7 else (
    if bytes_eq verb (codes "write") then Some 8 else (
    if bytes_eq verb (codes "create") then Some 9 else (
    if bytes_eq verb (codes "remove") then Some 10 else (
    if bytes_eq verb (codes "rename") then Some 11 else (
    if bytes_eq verb (codes "link") then Some 12 else (
    if bytes_eq verb (codes "symlink") then Some 13 else (
    if bytes_eq verb (codes "mkdir") then Some 14 else (
    if bytes_eq verb (codes "rmdir") then Some 15 else (
    if bytes_eq verb (codes "readdir") then Some 16 else (
    if bytes_eq verb (codes "statfs") then Some 17 else None)))))))))))))))))

-- the call of a procedure that the words behind its verb spell
unfoldable pub call_in_words : (procedure : ℕ) → List (List ℕ) → Option Call
call_in_words procedure words =
    if procedure == 0 then unless_more words null else (
    if procedure == 1 then file_words get_attributes words else (
    if procedure == 2 then set_attributes_words words else (
    if procedure == 3 then unless_more words root else (
    if procedure == 4 then named_words look_up words else (
    if procedure == 5 then file_words read_link words else (
    if procedure == 6 then read_words words else (
    if procedure == 7 then unless_more words write_cache else (
    if procedure == 8 then write_words words else (
    if procedure == 9 then named_with_settings_words create words else (
    if procedure == 10 then named_words remove words else (
    if procedure == 11 then rename_words words else (
    if procedure == 12 then link_words words else (
    if procedure == 13 then symbolic_link_words words else (
    if procedure == 14 then named_with_settings_words make_directory words else (
    if procedure == 15 then named_words remove_directory words else (
    if procedure == 16 then read_directory_words words else (
    if procedure == 17 then file_words file_system_status words else None)))))))))))))))))
