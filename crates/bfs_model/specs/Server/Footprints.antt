-- The fileids that a call reads and those that it writes, found on the inodes before it; what is written may be read.
use Rattle.std.specs.Prelude.{◌≡◌, ℕ, ◌<◌, Bool, true, false, not, ◌&&◌, ◌||◌, ◌==◌, IsTrue, List, [], ◌∷◌, ◌++◌, ◌⊎◌, All, Option, Some, None, option_map, option_and_then, Result, Ok, Err, if◌then◌else◌}
use Rattle.std.specs.Option.{option_map_or}
use Rattle.std.specs.List.{AllByRecursion}
use Rattle.std.specs.FinMap.{get}
use Rattle.bfs_model.specs.Server.Tree.{Time, Inode, Inodes, is_directory_body, is_directory, listing_at, entries_at}
use Rattle.bfs_model.specs.Server.Directories.{entry_named}
use Rattle.bfs_model.specs.Bytes.Call.{Credential, Request, Refusal, call_of}
use Rattle.bfs_model.specs.Bytes.Arguments.{Call, null, get_attributes, set_attributes, root, look_up, read_link, read, write_cache, write, create, remove, rename, make_link, make_symbolic_link, make_directory, remove_directory, read_directory, file_system_status, arguments_of}
use Rattle.bfs_model.specs.Server.Context.{Context}
use Rattle.bfs_model.specs.Server.Access.{may_search, may_change_entries}
use Rattle.bfs_model.specs.Server.Refusals.{is_spent}
use Rattle.bfs_model.specs.Server.Procedures.Names.{child_named}

pub data Footprint : Type 0 where
  known : (reads writes : List ℕ) → Footprint
  -- all fileids are read and written
  whole : Footprint

-- a handle that is not one of ours leads to no inode
abbrev pub ids_in : Option ℕ → List ℕ
ids_in None = []
ids_in (Some id) = id ∷ []

-- the fileid of an ordinal, unless it is spent
abbrev pub new_ids : (ordinal : ℕ) → List ℕ
new_ids ordinal = if is_spent ordinal then [] else ordinal ∷ []

-- what has that name in a directory
abbrev pub child_at : Inodes → (dir : Option ℕ) → (name : List ℕ) → Option ℕ
child_at inodes None name = None
child_at inodes (Some dir) name = option_map (λ entry. entry.child) (entry_named name (entries_at (get inodes dir)))

-- what LOOKUP finds: that of the name, for `.` the directory, for `..` its parent
abbrev pub id_found : Inodes → (dir : Option ℕ) → (name : List ℕ) → Option ℕ
id_found inodes None name = None
id_found inodes (Some dir) name = option_and_then (λ listing. child_named dir listing name) (listing_at (get inodes dir))

-- whether a directory there lets a caller do that; what is no directory refuses for another reason
abbrev pub lets : (may : Credential → Inode → Bool) → Credential → Option Inode → Bool
lets may caller None = true
lets may caller (Some inode) = not (is_directory_body inode.body) || may caller inode

-- names are looked for where a directory lets the caller search it, and where it lets it change its entries
abbrev pub lets_search : Inodes → Credential → (dir : Option ℕ) → Bool
lets_search inodes caller dir = lets may_search caller (option_and_then (get inodes) dir)

abbrev pub lets_change : Inodes → Credential → (dir : Option ℕ) → Bool
lets_change inodes caller dir = lets may_change_entries caller (option_and_then (get inodes) dir)

-- RENAME is refused so where both are directories, and either does not let the caller change its entries
abbrev pub lets_rename : Inodes → Credential → (from to : Option ℕ) → Bool
lets_rename inodes caller from to =
    not (is_directory (option_and_then (get inodes) from) && is_directory (option_and_then (get inodes) to))
    || lets_change inodes caller from && lets_change inodes caller to

-- whether a directory is renamed out of the directory that holds it, so that what lies above matters
abbrev pub moves_a_directory : Inodes → (from : Option ℕ) → (from_name : List ℕ) → (to : Option ℕ) → Bool
moves_a_directory inodes None from_name to = false
moves_a_directory inodes (Some from) from_name to = is_directory (option_and_then (get inodes) (child_at inodes (Some from) from_name)) && option_map_or (λ other. not (from == other)) to true

-- of REMOVE and RMDIR: what a caller may not change is only read
abbrev pub footprint_of_removing : Inodes → Context → (dir : Option ℕ) → (name : List ℕ) → Footprint
footprint_of_removing inodes context dir name =
    if lets_change inodes context.caller dir then known [] (ids_in dir ++ ids_in (child_at inodes dir name))
    else known (ids_in dir) []

abbrev pub footprint : Inodes → Context → Call → Footprint
footprint inodes context null = known [] []
footprint inodes context (get_attributes file) = known (ids_in file) []
footprint inodes context (set_attributes file settings) = known [] (ids_in file)
footprint inodes context root = known [] []
footprint inodes context (look_up dir name) =
    if lets_search inodes context.caller dir then known (ids_in dir ++ ids_in (id_found inodes dir name)) []
    else known (ids_in dir) []
footprint inodes context (read_link file) = known (ids_in file) []
footprint inodes context (read file offset count) = known (ids_in file) []
footprint inodes context write_cache = known [] []
footprint inodes context (write file offset bytes) = known [] (ids_in file)
footprint inodes context (create dir name settings) = known [] (ids_in dir ++ new_ids context.ordinal)
footprint inodes context (remove dir name) = footprint_of_removing inodes context dir name
footprint inodes context (rename from from_name to to_name) =
    if not (lets_rename inodes context.caller from to) then known (ids_in from ++ ids_in to) [] else
    if moves_a_directory inodes from from_name to then whole
    else known [] (ids_in from ++ ids_in to ++ ids_in (child_at inodes from from_name) ++ ids_in (child_at inodes to to_name))
footprint inodes context (make_link file dir name) = known [] (ids_in file ++ ids_in dir)
footprint inodes context (make_symbolic_link dir name path settings) = known [] (ids_in dir ++ new_ids context.ordinal)
footprint inodes context (make_directory dir name settings) = known [] (ids_in dir ++ new_ids context.ordinal)
footprint inodes context (remove_directory dir name) = footprint_of_removing inodes context dir name
footprint inodes context (read_directory dir cookie count) = known (ids_in dir) []
footprint inodes context (file_system_status file) = whole

-- Of a request -------------------------------------------------------------------------------------------------------

abbrev pub footprint_of_arguments : Inodes → (ordinal : ℕ) → Time → Request → Option Call → Footprint
footprint_of_arguments inodes ordinal time request None = known [] []
footprint_of_arguments inodes ordinal time request (Some call) = footprint inodes (record { ordinal = ordinal; time = time; caller = request.credential }) call

abbrev pub footprint_of_call : Inodes → (ordinal : ℕ) → Time → Result Request Refusal → Footprint
footprint_of_call inodes ordinal time (Err refusal) = known [] []
footprint_of_call inodes ordinal time (Ok request) = footprint_of_arguments inodes ordinal time request (arguments_of request.procedure request.arguments)

-- that of the request of these bytes; a refused one touches nothing
abbrev pub footprint_of : Inodes → (ordinal : ℕ) → Time → List ℕ → Footprint
footprint_of inodes ordinal time bytes = footprint_of_call inodes ordinal time (call_of bytes)

-- Fresh ordinals -----------------------------------------------------------------------------------------------------

-- an ordinal is new where a call writes: no inode has it as its fileid, and the cookies of a directory are below it
abbrev pub IsNewAt : Inodes → (ordinal id : ℕ) → Type 0
IsNewAt inodes ordinal id = (id ≡ ordinal → get inodes id ≡ None) × All (λ entry. entry.cookie < ordinal) (entries_at (get inodes id))

abbrev pub IsNewIn : Inodes → (ordinal : ℕ) → Footprint → Type 0
IsNewIn inodes ordinal (known reads writes) = AllByRecursion (IsNewAt inodes ordinal) writes
IsNewIn inodes ordinal whole = (id : ℕ) → IsNewAt inodes ordinal id

-- an ordinal is fresh for what touches these: spent, so that nothing is made under it, or new where is written
abbrev pub IsFreshFor : Inodes → (ordinal : ℕ) → Footprint → Type 0
IsFreshFor inodes ordinal footprint = IsTrue (is_spent ordinal) ⊎ IsNewIn inodes ordinal footprint

-- .. for a call
abbrev pub IsFresh : Inodes → Context → Call → Type 0
IsFresh inodes context call = IsFreshFor inodes context.ordinal (footprint inodes context call)
