-- What holds of every call on every finite map of inodes, well formed or not.
use Rattle.std.specs.Prelude.{◌≡◌, ℕ, Bool, true, false, IsTrue, Some, None, is_some}
use Rattle.std.specs.FinMap.{get}
use Rattle.bfs_model.specs.Server.Tree.{Inode, Inodes, FileSystem}
use Rattle.bfs_model.specs.Bytes.Attributes.{type_of}
use Rattle.bfs_model.specs.Server.Context.{Context}
use Rattle.bfs_model.specs.Bytes.Arguments.{Call, null, get_attributes, set_attributes, root, look_up, read_link, read, write_cache, write, create, remove, rename, make_link, make_symbolic_link, make_directory, remove_directory, read_directory, file_system_status}
use Rattle.bfs_model.specs.Bytes.Replies.{Status, refused}
use Rattle.bfs_model.specs.Server.Procedures.{procedure}
use Rattle.bfs_model.specs.Server.Footprints.{IsFresh}
use Rattle.bfs_model.specs.Server.Serial.{ordinal_after}
use Rattle.bfs_model.specs.Server.Short.{IsShort}
use Rattle.bfs_model.specs.Server.WellFormed.{IsTree, IsWellFormedTree, IsWellFormed}

-- a fileid that leads to no inode before a call and to one after it is the call's ordinal
abbrev pub NoOtherInodeIsAdded : Type 0
NoOtherInodeIsAdded = (inodes : Inodes) (context : Context) (call : Call) (id : ℕ)
    → get inodes id ≡ None → IsTrue (is_some (get (procedure inodes context call).0 id)) → id ≡ context.ordinal

-- where a call's ordinal is fresh, an inode that stays is of the type that it was of
abbrev pub TypesStay : Type 0
TypesStay = (inodes : Inodes) (context : Context) (call : Call) → IsFresh inodes context call
    → (id : ℕ) (before after : Inode) → get inodes id ≡ Some before → get (procedure inodes context call).0 id ≡ Some after
    → type_of after.body ≡ type_of before.body

-- and what was a tree stays one
abbrev pub TreesStay : Type 0
TreesStay = (inodes : Inodes) (context : Context) (call : Call) → IsFresh inodes context call → IsTree inodes → IsTree (procedure inodes context call).0

-- a call that is short, under a fresh ordinal, leaves a well-formed tree well formed by itself
abbrev pub CallsKeepTreesWellFormed : Type 0
CallsKeepTreesWellFormed = (inodes : Inodes) (context : Context) (call : Call) → IsFresh inodes context call → IsShort call → IsWellFormedTree inodes → IsWellFormedTree (procedure inodes context call).0

-- a call that is short, under the next ordinal, leaves a well-formed file system well formed
abbrev pub CallsKeepFilesWellFormed : Type 0
CallsKeepFilesWellFormed = (files : FileSystem) (context : Context) (call : Call) → context.ordinal ≡ files.next_ordinal → IsShort call → IsWellFormed files
    → IsWellFormed (record files { tree = (procedure files.tree context call).0; next_ordinal = ordinal_after files.next_ordinal 1 })

abbrev pub ARefusedCallChangesNothing : Type 0
ARefusedCallChangesNothing = (inodes : Inodes) (context : Context) (call : Call) (status : Status)
    → (procedure inodes context call).1 ≡ refused status → (procedure inodes context call).0 ≡ inodes

-- NULL, GETATTR, ROOT, LOOKUP, READLINK, READ, WRITECACHE, READDIR and STATFS
abbrev pub only_reads : Call → Bool
only_reads null = true
only_reads (get_attributes file) = true
only_reads (set_attributes file settings) = false
only_reads root = true
only_reads (look_up dir name) = true
only_reads (read_link file) = true
only_reads (read file offset count) = true
only_reads write_cache = true
only_reads (write file offset bytes) = false
only_reads (create dir name settings) = false
only_reads (remove dir name) = false
only_reads (rename from from_name to to_name) = false
only_reads (make_link file dir name) = false
only_reads (make_symbolic_link dir name path settings) = false
only_reads (make_directory dir name settings) = false
only_reads (remove_directory dir name) = false
only_reads (read_directory dir cookie count) = true
only_reads (file_system_status file) = true

abbrev pub ReadingChangesNothing : Type 0
ReadingChangesNothing = (inodes : Inodes) (context : Context) (call : Call)
    → IsTrue (only_reads call) → (procedure inodes context call).0 ≡ inodes
