-- Who reads behind a WRITE reads what was written.
use Rattle.std.specs.Prelude.{◌≡◌, ℕ, ◌+◌, ◌==◌, ◌&&◌, Bool, false, IsFalse, List, [], ◌∷◌, ◌++◌, length, Some, is_some, Ok}
use Rattle.std.specs.List.{AllByRecursion}
use Rattle.bfs_model.specs.Bytes.Arguments.{Call, arguments_of, read, set_attributes, write}
use Rattle.bfs_model.specs.Bytes.Attributes.{Attributes}
use Rattle.bfs_model.specs.Bytes.Call as rpc
use Rattle.bfs_model.specs.Bytes.Call.{call_of}
use Rattle.bfs_model.specs.Bytes.Items.{word}
use Rattle.bfs_model.specs.Bytes.Replies.{contents, results, success}
use Rattle.bfs_model.specs.Server.Serial.{answer, ordinal_after}
use Rattle.bfs_model.specs.Server.Tree.{FileSystem, Inodes}
use Rattle.bfs_model.specs.Server.WellFormed.{IsWellFormed}
use Rattle.bfs_one_server.specs.Serving.{Effect, Serves}

-- the inodes, and the next ordinal, once one server has answered requests
abbrev pub inodes_by : Inodes → (ordinal : ℕ) → List Effect → Inodes
inodes_by inodes ordinal [] = inodes
inodes_by inodes ordinal (e ∷ more) = inodes_by (answer inodes ordinal e.time e.request.call).0 (ordinal_after ordinal 1) more

abbrev pub ordinal_by : (ordinal : ℕ) → List Effect → ℕ
ordinal_by ordinal [] = ordinal
ordinal_by ordinal (e ∷ more) = ordinal_by (ordinal_after ordinal 1) more

-- each reply is that of the server behind all that stands before it
abbrev pub AnswersBehindAll : Type 0
AnswersBehindAll = (inodes : Inodes) (ordinal : ℕ) (front : List Effect) (e : Effect) (back : List Effect) → Serves inodes ordinal (front ++ e ∷ back)
    → e.reply ≡ (answer (inodes_by inodes ordinal front) (ordinal_by ordinal front) e.time e.request.call).1

-- Requests and replies ---------------------------------------------------------------------------------------------------

-- the bytes of its request spell that call (RFC 5531 section 9, RFC 1094 section 2.2)
pub record Spells (e : Effect) (request : rpc.Request) (call : Call) : Type 0 where
  pub header : call_of e.request.call ≡ Ok request
  pub arguments : arguments_of request.procedure request.arguments ≡ Some call

-- its reply has status NFS_OK, which is 0 (RFC 1094 section 2.3.1)
abbrev pub IsDone : Effect → Type 0
IsDone e = (xid : ℕ) × (rest : List ℕ) × (e.reply ≡ success xid (word 0 ++ rest))

-- its reply is that of a READ that was done, with these bytes (RFC 1094 section 2.2.7)
abbrev pub Gives : Effect → (xid : ℕ) → (bytes : List ℕ) → Type 0
Gives e xid bytes = (of : Attributes) × (e.reply ≡ success xid (results (contents of bytes)))

-- a WRITE of the file of a fileid, or a SETATTR that sets its size
abbrev pub rewrites : (id : ℕ) → Call → Bool
rewrites id (write (Some file) offset bytes) = file == id
rewrites id (set_attributes (Some file) settings) = file == id && is_some settings.size
rewrites id call = false

-- none of them that is done is such a request
abbrev pub NoneRewrites : (id : ℕ) → List Effect → Type 0
NoneRewrites id effects =
    AllByRecursion (λ (e : Effect). (request : rpc.Request) (call : Call) → Spells e request call → IsDone e → IsFalse (rewrites id call)) effects

-- A READ behind a WRITE --------------------------------------------------------------------------------------------------

-- a READ of as many bytes as were written, from where they were, gives them: both are done, and nothing between them rewrites
-- the file
abbrev pub ReadersSeeWrites : Type 0
ReadersSeeWrites = (files : FileSystem) (front : List Effect) (writing : Effect) (middle : List Effect) (reading : Effect) (back : List Effect)
    (one other : rpc.Request) (id offset : ℕ) (written : List ℕ)
    → IsWellFormed files → Serves files.tree files.next_ordinal (front ++ writing ∷ (middle ++ reading ∷ back))
    → Spells writing one (write (Some id) offset written) → IsDone writing
    → NoneRewrites id middle
    → Spells reading other (read (Some id) offset (length written)) → IsDone reading
    → Gives reading other.xid written

-- and a READ of a part of them gives that part
abbrev pub ReadersSeeParts : Type 0
ReadersSeeParts = (files : FileSystem) (front : List Effect) (writing : Effect) (middle : List Effect) (reading : Effect) (back : List Effect)
    (one other : rpc.Request) (id offset : ℕ) (first part last : List ℕ)
    → IsWellFormed files → Serves files.tree files.next_ordinal (front ++ writing ∷ (middle ++ reading ∷ back))
    → Spells writing one (write (Some id) offset (first ++ part ++ last)) → IsDone writing
    → NoneRewrites id middle
    → Spells reading other (read (Some id) (offset + length first) (length part)) → IsDone reading
    → Gives reading other.xid part
