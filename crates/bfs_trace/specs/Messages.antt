-- The bytes of a call: the message of RFC 5531 section 9, and in it the arguments of RFC 1094 section 2.2.
use Rattle.std.specs.Prelude.{ℕ, ◌%◌, List, [], ◌∷◌, ◌++◌, length, Option, Some, None, codes, replicate}
use Rattle.bfs_model.specs.Bytes.Arguments.{Call, Settings, all_ones, handle, null, get_attributes, set_attributes, root, look_up, read_link, read, write_cache, write, create, remove, rename, make_link, make_symbolic_link, make_directory, remove_directory, read_directory, file_system_status}
use Rattle.bfs_model.specs.Bytes.Call.{Credential}
use Rattle.bfs_model.specs.Bytes.Items.{counted, word, words}
use Rattle.bfs_model.specs.Server.Tree.{Time}

-- Arguments ----------------------------------------------------------------------------------------------------------

-- the handle of a file; zeros are none of ours
abbrev pub handle_item : Option ℕ → List ℕ
handle_item None = replicate 32 0
handle_item (Some file) = handle file

-- what is not set is told by a word of ones
abbrev pub setting_word : Option ℕ → ℕ
setting_word None = all_ones
setting_word (Some value) = value

abbrev pub seconds_word : Option Time → ℕ
seconds_word None = all_ones
seconds_word (Some time) = time.seconds

abbrev pub useconds_word : Option Time → ℕ
useconds_word None = all_ones
useconds_word (Some time) = time.useconds

-- sattr (RFC 1094 section 2.3.6)
unfoldable pub settings_item : Settings → List ℕ
settings_item s = words (setting_word s.mode ∷ setting_word s.uid ∷ setting_word s.gid ∷ setting_word s.size ∷ seconds_word s.atime ∷ useconds_word s.atime ∷ seconds_word s.mtime ∷ useconds_word s.mtime ∷ [])

-- the arguments of a call; of READ the total count, and of WRITE the begin offset and the total count, are words that nobody
-- reads, and 0
unfoldable pub arguments : Call → List ℕ
arguments null = []
arguments (get_attributes file) = handle_item file
arguments (set_attributes file settings) = handle_item file ++ settings_item settings
arguments root = []
arguments (look_up dir name) = handle_item dir ++ counted name
arguments (read_link file) = handle_item file
arguments (read file offset count) = handle_item file ++ words (offset ∷ count ∷ 0 ∷ [])
arguments write_cache = []
arguments (write file offset bytes) = handle_item file ++ words (0 ∷ offset ∷ 0 ∷ []) ++ counted bytes
arguments (create dir name settings) = handle_item dir ++ counted name ++ settings_item settings
arguments (remove dir name) = handle_item dir ++ counted name
arguments (rename from from_name to to_name) = handle_item from ++ counted from_name ++ handle_item to ++ counted to_name
arguments (make_link file dir name) = handle_item file ++ handle_item dir ++ counted name
arguments (make_symbolic_link dir name path settings) = handle_item dir ++ counted name ++ counted path ++ settings_item settings
arguments (make_directory dir name settings) = handle_item dir ++ counted name ++ settings_item settings
arguments (remove_directory dir name) = handle_item dir ++ counted name
arguments (read_directory dir cookie count) = handle_item dir ++ words (cookie ∷ count ∷ [])
arguments (file_system_status file) = handle_item file

-- The header -----------------------------------------------------------------------------------------------------------

-- the body of AUTH_SYS (RFC 5531 appendix A): stamp 0, the machine's name, uid, gid, and the further gids behind their number
unfoldable pub credential_body : Credential → List ℕ
credential_body caller = word 0 ++ counted (codes "replay") ++ words (caller.uid ∷ caller.gid ∷ length caller.gids ∷ caller.gids)

-- a call's xid, CALL, version 2 of RPC, version 2 of program 100003, and the procedure; a credential of AUTH_SYS, which is 1, and
-- a verifier of AUTH_NONE, which is 0 and has no bytes (RFC 5531 sections 8.2 and 9)
unfoldable pub call_header : Credential → (timestamp procedure : ℕ) → List ℕ
call_header caller timestamp procedure =
    words ((timestamp % 4294967296) ∷ 0 ∷ 2 ∷ 100003 ∷ 2 ∷ procedure ∷ 1 ∷ []) ++ counted (credential_body caller) ++ words (0 ∷ 0 ∷ [])

-- the whole call of a caller under a client's timestamp
abbrev pub message : Credential → (timestamp procedure : ℕ) → Call → List ℕ
message caller timestamp procedure call = call_header caller timestamp procedure ++ arguments call
