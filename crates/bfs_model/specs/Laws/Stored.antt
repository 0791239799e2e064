-- What requests of bytes leave can be stored, and how the replies to them are read back.
use Rattle.std.specs.Prelude.{◌≡◌, ℕ, List, All, Some, None, Ok, Err}
use Rattle.bfs_model.specs.Server.Tree.{Time, Inodes, FileSystem}
use Rattle.bfs_model.specs.Server.Context.{Context}
use Rattle.bfs_model.specs.Bytes.Call.{Request, Refusal, call_of}
use Rattle.bfs_model.specs.Bytes.Arguments.{Call, arguments_of}
use Rattle.bfs_model.specs.Bytes.Replies.{Reply, results}
use Rattle.bfs_model.specs.Server.Procedures.{procedure}
use Rattle.bfs_model.specs.Server.Serial.{answer, Batch, execute}
use Rattle.bfs_model.specs.Bytes.ReplyReading.{Verdict, succeeded, garbage_arguments, reply_of, results_of, refusal_told}
use Rattle.bfs_model.specs.Server.Stored.{AreBytes, IsTime, AreStorable, IsLive, ContextIsStorable, CallIsStorable, RequestIsStorable}

-- What is stored -----------------------------------------------------------------------------------------------------

-- under any ordinal
abbrev pub CallsKeepInodesStorable : Type 0
CallsKeepInodesStorable = (inodes : Inodes) (context : Context) (call : Call) → ContextIsStorable context → CallIsStorable call → AreStorable inodes → AreStorable (procedure inodes context call).0

abbrev pub RequestsAreStorable : Type 0
RequestsAreStorable = (bytes : List ℕ) (request : Request) → AreBytes bytes → call_of bytes ≡ Ok request → RequestIsStorable request

abbrev pub ArgumentsAreStorable : Type 0
ArgumentsAreStorable = (number : ℕ) (bytes : List ℕ) (call : Call) → AreBytes bytes → arguments_of number bytes ≡ Some call → CallIsStorable call

-- a batch of requests of bytes, at a time
abbrev pub BatchesKeepFilesLive : Type 0
BatchesKeepFilesLive = (files : FileSystem) (batch : Batch) → IsTime batch.time → All AreBytes batch.requests → IsLive files → IsLive (execute files batch).0

-- What is read back --------------------------------------------------------------------------------------------------

-- the reply to a request that spells a call and its arguments, from a live file system: a strict reader has the request's xid
-- and the results, and of these the very reply that the procedure gives
abbrev pub AnswersAreReadBack : Type 0
AnswersAreReadBack = (files : FileSystem) (time : Time) (bytes : List ℕ) (request : Request) (call : Call)
    → IsLive files → IsTime time → AreBytes bytes → call_of bytes ≡ Ok request → arguments_of request.procedure request.arguments ≡ Some call
    → let context : Context = record { ordinal = files.next_ordinal; time = time; caller = request.credential } in let reply : Reply = (procedure files.tree context call).1 in
    (reply_of (answer files.tree files.next_ordinal time bytes).1 ≡ Ok (request.xid, succeeded (results reply))) × (results_of request.procedure (results reply) ≡ Ok reply)

-- to one whose arguments don't spell: GARBAGE_ARGS
abbrev pub GarbageAnswersAreReadBack : Type 0
GarbageAnswersAreReadBack = (inodes : Inodes) (ordinal : ℕ) (time : Time) (bytes : List ℕ) (request : Request)
    → AreBytes bytes → call_of bytes ≡ Ok request → arguments_of request.procedure request.arguments ≡ None
    → reply_of (answer inodes ordinal time bytes).1 ≡ Ok (request.xid, garbage_arguments)

-- to one that is refused with a reply: why
abbrev pub RefusedAnswersAreReadBack : Type 0
RefusedAnswersAreReadBack = (inodes : Inodes) (ordinal : ℕ) (time : Time) (bytes : List ℕ) (reason : Refusal) (xid : ℕ) (verdict : Verdict)
    → AreBytes bytes → call_of bytes ≡ Err reason → refusal_told reason ≡ Some (xid, verdict)
    → reply_of (answer inodes ordinal time bytes).1 ≡ Ok (xid, verdict)
