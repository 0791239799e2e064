-- What footprints say: which calls conflict, where a call resolves names, and what is seen and left of inodes by a footprint.
use Rattle.std.specs.Prelude.{◌≡◌, ℕ, Bool, true, false, ◌==◌, ◌||◌, IsTrue, List, [], ◌∷◌, ◌++◌, Option, Some, None, Result, Ok, Err}
use Rattle.std.specs.List.{list_any}
use Rattle.std.specs.Ordering.{nat_cmp}
use Rattle.std.specs.FinMap.{FinMap, get, insert, remove}
use Rattle.bfs_model.specs.Server.Tree.{Inodes}
use Rattle.bfs_model.specs.Bytes.Call.{Request, Refusal, call_of}
use Rattle.bfs_model.specs.Bytes.Arguments.{Call, null, get_attributes, set_attributes, root, look_up, read_link, read, write_cache, write, create, remove as remove_file, rename, make_link, make_symbolic_link, make_directory, remove_directory, read_directory, file_system_status, arguments_of}
use Rattle.bfs_model.specs.Server.Footprints.{Footprint, known, whole, ids_in, child_at}

abbrev pub among : List ℕ → ℕ → Bool
among [] id = false
among (other ∷ ids) id = other == id || among ids id

abbrev pub is_whole : Footprint → Bool
is_whole (known reads writes) = false
is_whole whole = true

abbrev pub is_written : Footprint → ℕ → Bool
is_written (known reads writes) id = among writes id
is_written whole id = true

-- what is written may be read
abbrev pub is_touched : Footprint → ℕ → Bool
is_touched (known reads writes) id = among reads id || among writes id
is_touched whole id = true

-- two footprints conflict where one writes what the other reads or writes
abbrev pub conflict : Footprint → Footprint → Bool
conflict (known reads writes) (known others theirs) = list_any (is_touched (known others theirs)) writes || list_any (is_touched (known reads writes)) theirs
conflict (known reads writes) whole = true
conflict whole other = true

-- the directories in which a call finds out which inodes it touches
abbrev pub resolved_in : Call → List ℕ
resolved_in null = []
resolved_in (get_attributes file) = []
resolved_in (set_attributes file settings) = []
resolved_in root = []
resolved_in (look_up dir name) = ids_in dir
resolved_in (read_link file) = []
resolved_in (read file offset count) = []
resolved_in write_cache = []
resolved_in (write file offset bytes) = []
resolved_in (create dir name settings) = []
resolved_in (remove_file dir name) = ids_in dir
resolved_in (rename from from_name to to_name) = ids_in from ++ ids_in to
resolved_in (make_link file dir name) = []
resolved_in (make_symbolic_link dir name path settings) = []
resolved_in (make_directory dir name settings) = []
resolved_in (remove_directory dir name) = ids_in dir
resolved_in (read_directory dir cookie count) = []
resolved_in (file_system_status file) = []

-- the inode that RENAME moves: of what calls find in directories, it alone tells by its type what is touched
abbrev pub moved_by : Inodes → Call → Option ℕ
moved_by inodes (rename from from_name to to_name) = child_at inodes from from_name
moved_by inodes other = None

-- Inodes by a footprint ----------------------------------------------------------------------------------------------

-- the same inodes, or none, wherever a call looks
abbrev pub AgreeOn : Footprint → Inodes → Inodes → Type 0
AgreeOn footprint inodes others = (id : ℕ) → IsTrue (is_touched footprint id) → get others id ≡ get inodes id

-- with that at its key, or nothing
abbrev pub set_at : {X : Type 0} → FinMap nat_cmp X → ℕ → Option X → FinMap nat_cmp X
set_at map key None = remove map key
set_at map key (Some x) = insert map key x

-- with what others hold at these fileids
abbrev pub put_back : List ℕ → (others : Inodes) → Inodes → Inodes
put_back [] others inodes = inodes
put_back (id ∷ ids) others inodes = set_at (put_back ids others inodes) id (get others id)

-- the inodes when what a call left where it writes has come back
abbrev pub closed : Footprint → (left : Inodes) → Inodes → Inodes
closed (known reads writes) left inodes = put_back writes left inodes
closed whole left inodes = left

-- a call's outcome on inodes of which another map holds what it touches
abbrev pub outcome_on : {R : Type 0} → Footprint → (others : Inodes) → Inodes × R → Inodes × R
outcome_on footprint others outcome = (closed footprint outcome.0 others, outcome.1)

-- Of a request -------------------------------------------------------------------------------------------------------

abbrev pub resolved_in_arguments : Option Call → List ℕ
resolved_in_arguments None = []
resolved_in_arguments (Some call) = resolved_in call

abbrev pub resolved_in_call : Result Request Refusal → List ℕ
resolved_in_call (Err refusal) = []
resolved_in_call (Ok request) = resolved_in_arguments (arguments_of request.procedure request.arguments)

-- the directories in which the request of these bytes resolves names
abbrev pub resolved_of : List ℕ → List ℕ
resolved_of bytes = resolved_in_call (call_of bytes)
