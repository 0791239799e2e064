-- One call after another: from the bytes of requests to the bytes of replies.
use Rattle.std.specs.Prelude.{ℕ, ◌+◌, Bool, ◌&&◌, ◌||◌, min, List, [], ◌∷◌, length, Option, Some, None, Result, Ok, Err, nat_lt, ◌==◌, if◌then◌else◌}
use Rattle.bfs_model.specs.Server.Tree.{Time, Inodes, FileSystem, spent_ordinal}
use Rattle.bfs_model.specs.Bytes.Call.{Request, Refusal, call_of}
use Rattle.bfs_model.specs.Bytes.Arguments.{Call, arguments_of}
use Rattle.bfs_model.specs.Bytes.Replies.{results, success, garbage, refusal}
use Rattle.bfs_model.specs.Server.Refusals.{Outcome}
use Rattle.bfs_model.specs.Server.Procedures.{procedure}

-- Time and ordinals ------------------------------------------------------------------------------------------------

abbrev pub is_after : Time → Time → Bool
is_after t other = nat_lt other.seconds t.seconds || (t.seconds == other.seconds && nat_lt other.useconds t.useconds)

-- a microsecond later; the last time that a timeval of 32-bit words spells stays
abbrev pub next_microsecond : Time → Time
next_microsecond t =
    if nat_lt t.useconds 999999 then record { seconds = t.seconds; useconds = t.useconds + 1 } else (
    if nat_lt t.seconds 4294967295 then record { seconds = t.seconds + 1; useconds = 0 } else t)

-- the time of a batch: the proposed one where it is after the last, else a microsecond after the last
abbrev pub effective_time : (last proposed : Time) → Time
effective_time last proposed = if is_after proposed last then proposed else next_microsecond last

-- the ordinal so many requests on; a spent one stays
abbrev pub ordinal_after : ℕ → ℕ → ℕ
ordinal_after ordinal count = min (ordinal + count) spent_ordinal

-- One request ------------------------------------------------------------------------------------------------------

abbrev pub in_success : ℕ → Outcome → Inodes × List ℕ
in_success xid done = (done.0, success xid (results done.1))

abbrev pub answer_arguments : Inodes → ℕ → Time → Request → Option Call → Inodes × List ℕ
answer_arguments inodes ordinal time request None = (inodes, garbage request.xid)
answer_arguments inodes ordinal time request (Some call) = in_success request.xid (procedure inodes (record { ordinal = ordinal; time = time; caller = request.credential }) call)

abbrev pub answer_call : Inodes → ℕ → Time → Result Request Refusal → Inodes × List ℕ
answer_call inodes ordinal time (Err reason) = (inodes, refusal reason)
answer_call inodes ordinal time (Ok request) = answer_arguments inodes ordinal time request (arguments_of request.procedure request.arguments)

-- the inodes after the request that bytes spell, and the bytes of its reply
unfoldable pub answer : Inodes → ℕ → Time → List ℕ → Inodes × List ℕ
answer inodes ordinal time bytes = answer_call inodes ordinal time (call_of bytes)

-- A batch ----------------------------------------------------------------------------------------------------------

-- requests that are executed one after another, at one time
pub record Batch : Type 0 where
  pub time : Time
  pub requests : List (List ℕ)

abbrev pub inodes_after : Inodes → ℕ → Time → List (List ℕ) → Inodes
inodes_after inodes ordinal time [] = inodes
inodes_after inodes ordinal time (request ∷ requests) = inodes_after (answer inodes ordinal time request).0 (ordinal_after ordinal 1) time requests

abbrev pub replies_to : Inodes → ℕ → Time → List (List ℕ) → List (List ℕ)
replies_to inodes ordinal time [] = []
replies_to inodes ordinal time (request ∷ requests) =
    (answer inodes ordinal time request).1 ∷ replies_to (answer inodes ordinal time request).0 (ordinal_after ordinal 1) time requests

-- the file system after a batch, and the replies in its order
unfoldable pub execute : FileSystem → Batch → FileSystem × List (List ℕ)
execute files batch =
    let time = effective_time files.last_time batch.time in (
      record { tree = inodes_after files.tree files.next_ordinal time batch.requests; next_ordinal = ordinal_after files.next_ordinal (length batch.requests); last_time = time },
      replies_to files.tree files.next_ordinal time batch.requests,
    )
