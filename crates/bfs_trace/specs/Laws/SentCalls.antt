-- What the server reads of the calls that verbs spell.
use Rattle.std.specs.Prelude.{◌≡◌, ℕ, ◌%◌, ◌<◌, ◌≤◌, List, length, ◌++◌, Option, Some, Ok, IfSome}
use Rattle.bfs_model.specs.Bytes.Arguments.{Call, Settings, arguments_of, time_set, word_set, null, get_attributes, set_attributes, root, look_up, read_link, read, write_cache, write, create, remove, rename, make_link, make_symbolic_link, make_directory, remove_directory, read_directory, file_system_status}
use Rattle.bfs_model.specs.Bytes.Call.{Credential, call_of}
use Rattle.bfs_model.specs.Server.Limits.{most_clients, most_data_bytes, most_name_bytes, most_path_bytes}
use Rattle.bfs_model.specs.Server.Stored.{CallerIsStorable, IsWord}
use Rattle.bfs_model.specs.Server.Tree.{Time}
use Rattle.bfs_trace.specs.Callers.{credential_spelled, first_caller, most_gids}
use Rattle.bfs_trace.specs.Messages.{arguments, call_header, seconds_word, setting_word, useconds_word}
use Rattle.bfs_trace.specs.Verbs.{call_in_words}

-- The header -----------------------------------------------------------------------------------------------------------

-- numbers below 2^32, and no more groups than a credential has room for
pub record FitsCredential (caller : Credential) : Type 0 where
  pub storable : CallerIsStorable caller
  pub few : length caller.gids ≤ most_gids

-- a header is read as that of a call of that procedure by that caller, whatever its arguments
abbrev pub HeadersAreRead : Type 0
HeadersAreRead = (caller : Credential) (timestamp procedure : ℕ) (rest : List ℕ) → FitsCredential caller → procedure ≤ 17
    → call_of (call_header caller timestamp procedure ++ rest)
    ≡ Ok (record { xid = timestamp % 4294967296; procedure = procedure; credential = caller; arguments = rest })

-- each caller of a trace fits: those that come first, and those that lines name
pub record CallersFit : Type 0 where
  pub first : (client : ℕ) → client < most_clients → FitsCredential (first_caller client)
  pub spelled : (words : List (List ℕ)) (caller : Credential) → credential_spelled words ≡ Some caller → FitsCredential caller

-- Arguments ------------------------------------------------------------------------------------------------------------

-- the number of a call's procedure (RFC 1094 section 2.2)
abbrev pub procedure_of : Call → ℕ
procedure_of null = 0
procedure_of (get_attributes file) = 1
procedure_of (set_attributes file settings) = 2
procedure_of root = 3
procedure_of (look_up dir name) = 4
procedure_of (read_link file) = 5
procedure_of (read file offset count) = 6
procedure_of write_cache = 7
procedure_of (write file offset bytes) = 8
procedure_of (create dir name settings) = 9
procedure_of (remove dir name) = 10
procedure_of (rename from from_name to to_name) = 11
procedure_of (make_link file dir name) = 12
procedure_of (make_symbolic_link dir name path settings) = 13
procedure_of (make_directory dir name settings) = 14
procedure_of (remove_directory dir name) = 15
procedure_of (read_directory dir cookie count) = 16
procedure_of (file_system_status file) = 17

-- a setting whose word is all ones is read as not set
abbrev pub setting_read : Option ℕ → Option ℕ
setting_read setting = word_set (setting_word setting)

abbrev pub time_read : Option Time → Option Time
time_read time = time_set (seconds_word time) (useconds_word time)

abbrev pub settings_read : Settings → Settings
settings_read s = record { mode = setting_read s.mode; uid = setting_read s.uid; gid = setting_read s.gid; size = setting_read s.size; atime = time_read s.atime; mtime = time_read s.mtime }

-- a call as it is read
abbrev pub call_read : Call → Call
call_read (set_attributes file settings) = set_attributes file (settings_read settings)
call_read (create dir name settings) = create dir name (settings_read settings)
call_read (make_symbolic_link dir name path settings) = make_symbolic_link dir name path (settings_read settings)
call_read (make_directory dir name settings) = make_directory dir name (settings_read settings)
call_read call = call

-- what the items of a call's arguments hold: words, and names, paths and data within their limits
abbrev pub IsFile : Option ℕ → Type 0
IsFile file = IfSome file (λ id. IsWord id)

abbrev pub IsName : List ℕ → Type 0
IsName name = length name ≤ most_name_bytes

pub record AreSettings (s : Settings) : Type 0 where
  pub mode : IsWord (setting_word s.mode)
  pub uid : IsWord (setting_word s.uid)
  pub gid : IsWord (setting_word s.gid)
  pub size : IsWord (setting_word s.size)
  pub atime : IsWord (seconds_word s.atime) × IsWord (useconds_word s.atime)
  pub mtime : IsWord (seconds_word s.mtime) × IsWord (useconds_word s.mtime)

abbrev pub FitsItems : Call → Type 0
FitsItems null = Unit {0}
FitsItems (get_attributes file) = IsFile file
FitsItems (set_attributes file settings) = IsFile file × AreSettings settings
FitsItems root = Unit {0}
FitsItems (look_up dir name) = IsFile dir × IsName name
FitsItems (read_link file) = IsFile file
FitsItems (read file offset count) = IsFile file × IsWord offset × IsWord count
FitsItems write_cache = Unit {0}
FitsItems (write file offset bytes) = IsFile file × IsWord offset × (length bytes ≤ most_data_bytes)
FitsItems (create dir name settings) = IsFile dir × IsName name × AreSettings settings
FitsItems (remove dir name) = IsFile dir × IsName name
FitsItems (rename from from_name to to_name) = IsFile from × IsName from_name × IsFile to × IsName to_name
FitsItems (make_link file dir name) = IsFile file × IsFile dir × IsName name
FitsItems (make_symbolic_link dir name path settings) = IsFile dir × IsName name × (length path ≤ most_path_bytes) × AreSettings settings
FitsItems (make_directory dir name settings) = IsFile dir × IsName name × AreSettings settings
FitsItems (remove_directory dir name) = IsFile dir × IsName name
FitsItems (read_directory dir cookie count) = IsFile dir × IsWord cookie × IsWord count
FitsItems (file_system_status file) = IsFile file

-- the arguments of a call are read as that call
abbrev pub ArgumentsAreRead : Type 0
ArgumentsAreRead = (call : Call) → FitsItems call → arguments_of (procedure_of call) (arguments call) ≡ Some (call_read call)

-- Words ----------------------------------------------------------------------------------------------------------------

-- names, a path and data that are no longer than RFC 1094 section 2.3.1 allows
abbrev pub KeepsLimits : Call → Type 0
KeepsLimits (look_up dir name) = IsName name
KeepsLimits (write file offset bytes) = length bytes ≤ most_data_bytes
KeepsLimits (create dir name settings) = IsName name
KeepsLimits (remove dir name) = IsName name
KeepsLimits (rename from from_name to to_name) = IsName from_name × IsName to_name
KeepsLimits (make_link file dir name) = IsName name
KeepsLimits (make_symbolic_link dir name path settings) = IsName name × (length path ≤ most_path_bytes)
KeepsLimits (make_directory dir name settings) = IsName name
KeepsLimits (remove_directory dir name) = IsName name
KeepsLimits call = Unit {0}

-- the arguments of a call that words spell are read as those of that call
abbrev pub SpelledCallsAreRead : Type 0
SpelledCallsAreRead = (procedure : ℕ) (words : List (List ℕ)) (call : Call) → call_in_words procedure words ≡ Some call → KeepsLimits call
    → arguments_of procedure (arguments call) ≡ Some (call_read call)
