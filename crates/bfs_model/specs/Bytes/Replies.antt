-- What is answered, and the one spelling of it: the words of RFC 5531 section 9 and the results of RFC 1094 section 2.2.
use Rattle.std.specs.Prelude.{ℕ, Bool, true, false, ◌+◌, List, [], ◌∷◌, ◌++◌}
use Rattle.bfs_model.specs.Bytes.Items.{word, words, boolean, counted}
use Rattle.bfs_model.specs.Server.Tree.{Time, Entry}
use Rattle.bfs_model.specs.Bytes.Attributes.{FileType, regular, directory_type, symbolic_link, Attributes, block_size, blocks_of, transfer_size, total_blocks}
use Rattle.bfs_model.specs.Bytes.Arguments.{handle}
use Rattle.std.specs.List.{flat_map}
use Rattle.bfs_model.specs.Bytes.Call.{Refusal, silent, rpc_mismatch, bad_credential, program_unavailable, program_mismatch, procedure_unavailable}

-- Statuses (RFC 1094 section 2.3.1, stat) --------------------------------------------------------------------------

-- why a procedure is not done
pub data Status : Type 0 where
  perm : Status
  noent : Status
  acces : Status
  exist : Status
  notdir : Status
  isdir : Status
  fbig : Status
  nospc : Status
  notempty : Status
  stale : Status

abbrev pub status_number : Status → ℕ
status_number perm = 1
status_number noent = 2
status_number acces = 13
status_number exist = 17
status_number notdir = 20
status_number isdir = 21
status_number fbig = 27
status_number nospc = 28
status_number notempty = 66
status_number stale = 70

-- Results ----------------------------------------------------------------------------------------------------------

-- what a procedure gives
pub data Reply : Type 0 where
  -- of NULL, ROOT and WRITECACHE: no status and nothing else
  void : Reply
  refused : (status : Status) → Reply
  -- status 0 and nothing else
  done : Reply
  -- an attrstat (RFC 1094 section 2.3.6)
  attributes : (of : Attributes) → Reply
  -- a diropres (RFC 1094 section 2.3.12): the handle of an inode, and its attributes
  found : (file : ℕ) (of : Attributes) → Reply
  -- of READLINK
  path : (bytes : List ℕ) → Reply
  -- of READ: the file's attributes and some of its bytes
  contents : (of : Attributes) (bytes : List ℕ) → Reply
  -- of READDIR: some entries, and whether none is left after them
  listed : (entries : List Entry) (all : Bool) → Reply
  -- of STATFS: the blocks that are free
  free_blocks : (free : ℕ) → Reply

-- RFC 1094 section 2.3.2
abbrev pub type_number : FileType → ℕ
type_number regular = 1
type_number directory_type = 2
type_number symbolic_link = 5

-- the bits of the mode that tell the type, 0100000, 040000 and 0120000 (RFC 1094 section 2.3.5)
abbrev pub type_bits : FileType → ℕ
type_bits regular = 0o100000
type_bits directory_type = 0o40000
type_bits symbolic_link = 0o120000

abbrev pub time_words : Time → List ℕ
time_words t = t.seconds ∷ t.useconds ∷ []

-- the words of an fattr (RFC 1094 section 2.3.5): there are no devices, so rdev is 0, and one file system, so fsid is 1
abbrev pub attribute_words : Attributes → List ℕ
attribute_words a =
    (type_number a.file_type ∷ (type_bits a.file_type + a.permissions) ∷ a.links ∷ a.uid ∷ a.gid ∷ a.size ∷ block_size ∷ 0 ∷ blocks_of a.size ∷ 1 ∷ a.fileid ∷ [])
    ++ time_words a.atime ++ time_words a.mtime ++ time_words a.ctime

-- an entry of READDIR's list, behind the word that says that there is one (RFC 1094 section 2.2.17)
abbrev pub entry_item : Entry → List ℕ
entry_item entry = boolean true ++ word entry.child ++ counted entry.name ++ word entry.cookie

unfoldable pub results : Reply → List ℕ
results void = []
results (refused status) = words (status_number status ∷ [])
results done = words (0 ∷ [])
results (attributes of) = words (0 ∷ []) ++ words (attribute_words of)
results (found file of) = words (0 ∷ []) ++ handle file ++ words (attribute_words of)
results (path bytes) = words (0 ∷ []) ++ counted bytes
results (contents of bytes) = words (0 ∷ []) ++ words (attribute_words of) ++ counted bytes
results (listed entries all) = words (0 ∷ []) ++ flat_map entry_item entries ++ boolean false ++ boolean all
results (free_blocks free) = words (0 ∷ transfer_size ∷ block_size ∷ total_blocks ∷ free ∷ free ∷ [])

-- Messages (RFC 5531 section 9) ------------------------------------------------------------------------------------

-- accepted and done: REPLY, MSG_ACCEPTED, a verifier of AUTH_NONE, SUCCESS, and the results
unfoldable pub success : ℕ → List ℕ → List ℕ
success xid bytes = words (xid ∷ 1 ∷ 0 ∷ 0 ∷ 0 ∷ 0 ∷ []) ++ bytes

-- accepted, but the arguments don't spell: GARBAGE_ARGS
unfoldable pub garbage : ℕ → List ℕ
garbage xid = words (xid ∷ 1 ∷ 0 ∷ 0 ∷ 0 ∷ 4 ∷ [])

-- a refused call's reply; where not even the header can be read there is none
unfoldable pub refusal : Refusal → List ℕ
refusal silent = []
-- MSG_DENIED, RPC_MISMATCH, from version 2 to version 2
refusal (rpc_mismatch xid) = words (xid ∷ 1 ∷ 1 ∷ 0 ∷ 2 ∷ 2 ∷ [])
-- MSG_DENIED, AUTH_ERROR, AUTH_BADCRED
refusal (bad_credential xid) = words (xid ∷ 1 ∷ 1 ∷ 1 ∷ 1 ∷ [])
-- MSG_ACCEPTED, PROG_UNAVAIL
refusal (program_unavailable xid) = words (xid ∷ 1 ∷ 0 ∷ 0 ∷ 0 ∷ 1 ∷ [])
-- MSG_ACCEPTED, PROG_MISMATCH, from version 2 to version 2
refusal (program_mismatch xid) = words (xid ∷ 1 ∷ 0 ∷ 0 ∷ 0 ∷ 2 ∷ 2 ∷ 2 ∷ [])
-- MSG_ACCEPTED, PROC_UNAVAIL
refusal (procedure_unavailable xid) = words (xid ∷ 1 ∷ 0 ∷ 0 ∷ 0 ∷ 3 ∷ [])
