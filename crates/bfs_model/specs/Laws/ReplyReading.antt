-- Replies are read back as they were spelled.
use Rattle.std.specs.Prelude.{◌≡◌, ℕ, List, Some, Ok}
use Rattle.bfs_model.specs.Server.Tree.{Inodes}
use Rattle.bfs_model.specs.Bytes.Arguments.{Call, arguments_of}
use Rattle.bfs_model.specs.Server.Context.{Context}
use Rattle.bfs_model.specs.Bytes.Call.{Refusal}
use Rattle.bfs_model.specs.Bytes.Replies.{Reply, results, success, garbage, refusal}
use Rattle.bfs_model.specs.Server.Procedures.{procedure}
use Rattle.bfs_model.specs.Server.Stored.{IsWord}
use Rattle.bfs_model.specs.Bytes.ReplyReading.{Verdict, reply_of, ResultsForm, form_of, results_of, HasForm, IsSpellable, refusal_told, succeeded, garbage_arguments}

-- each procedure's results are read back
abbrev pub ResultsAreReadBack : Type 0
ResultsAreReadBack = (procedure : ℕ) (form : ResultsForm) (reply : Reply) → form_of procedure ≡ Some form → IsSpellable form reply
    → results_of procedure (results reply) ≡ Ok reply

-- and the reply to each procedure's call has its form
abbrev pub RepliesHaveTheirForm : Type 0
RepliesHaveTheirForm = (inodes : Inodes) (context : Context) (number : ℕ) (form : ResultsForm) (bytes : List ℕ) (call : Call)
    → form_of number ≡ Some form → arguments_of number bytes ≡ Some call → HasForm form (procedure inodes context call).1

-- a message with results is read back, whatever these are
abbrev pub SuccessIsReadBack : Type 0
SuccessIsReadBack = (xid : ℕ) (bytes : List ℕ) → IsWord xid → reply_of (success xid bytes) ≡ Ok (xid, succeeded bytes)

abbrev pub GarbageIsReadBack : Type 0
GarbageIsReadBack = (xid : ℕ) → IsWord xid → reply_of (garbage xid) ≡ Ok (xid, garbage_arguments)

abbrev pub RefusalsAreReadBack : Type 0
RefusalsAreReadBack = (reason : Refusal) (xid : ℕ) (verdict : Verdict) → refusal_told reason ≡ Some (xid, verdict) → IsWord xid
    → reply_of (refusal reason) ≡ Ok (xid, verdict)
