-- How the code comes to the outcome, in two passes over a batch. First the new requests are told by their timestamps alone, and are
-- executed together as one batch of a file system; then each request gets its answer, with the replies to the new ones at hand.
use Rattle.std.specs.Prelude.{ℕ, List, [], ◌∷◌, ◌++◌}
use Rattle.bfs_model.specs.Server.Serial as serial
use Rattle.bfs_model.specs.Server.Tree.{Time}
use Rattle.bfs_messages.specs.Messages.{Request}
use Rattle.bfs_messages.specs.declared.signed.Signed.{Signed}
use Rattle.bfs_replies.specs.Answers.{Answer, recorded_all}
use Rattle.bfs_replies.specs.Classes.{Timestamps, class_among, taken, timestamps_of}
use Rattle.bfs_replies.specs.Tables.{Table, last_of}
use Rattle.bfs_replies.specs.declared.tables.Class.{Class}
use Rattle.bfs_replies.specs.declared.tables.Class.TheVariants.{New, Repeat, Old, Unknown}
use Rattle.bfs_outcome.specs.Outcome.{answer_again, answer_to}

abbrev pub class_by : Timestamps → Request → Class
class_by timestamps request = class_among timestamps request.client request.timestamp

abbrev pub taken_by : Timestamps → Request → Timestamps
taken_by timestamps request = taken timestamps request.client request.timestamp

-- The first pass ------------------------------------------------------------------------------------------------------

abbrev pub call_as : Class → Request → List (List ℕ)
call_as New request = request.call ∷ []
call_as Repeat request = []
call_as Old request = []
call_as Unknown request = []

abbrev pub new_calls : Timestamps → List (Signed Request) → List (List ℕ)
new_calls timestamps [] = []
new_calls timestamps (signed ∷ rest) = call_as (class_by timestamps signed.message) signed.message ++ new_calls (taken_by timestamps signed.message) rest

-- the new ones among the requests, as a batch for a file system
abbrev pub new_batch : Table → Time → List (Signed Request) → serial.Batch
new_batch table time requests = record { time = time; requests = new_calls (timestamps_of table) requests }

-- The second pass, with the replies to the new requests that are left -------------------------------------------------------

abbrev pub left_as : Class → (replies : List (List ℕ)) → List (List ℕ)
left_as New [] = []
left_as New (reply ∷ replies) = replies
left_as Repeat replies = replies
left_as Old replies = replies
left_as Unknown replies = replies

abbrev pub to_record_as : Class → Request → (replies : List (List ℕ)) → List Answer
to_record_as New request [] = []
to_record_as New request (reply ∷ replies) = answer_to request reply ∷ []
to_record_as Repeat request replies = []
to_record_as Old request replies = []
to_record_as Unknown request replies = []

abbrev pub to_answer_as : Class → Table → Request → (replies : List (List ℕ)) → List Answer
to_answer_as New table request replies = to_record_as New request replies
to_answer_as Repeat table request replies = answer_again request (last_of table request.client)
to_answer_as Old table request replies = []
to_answer_as Unknown table request replies = []

-- the replies to the new requests
abbrev pub to_record : Timestamps → List (Signed Request) → (replies : List (List ℕ)) → List Answer
to_record timestamps [] replies = []
to_record timestamps (signed ∷ rest) replies =
    to_record_as (class_by timestamps signed.message) signed.message replies
    ++ to_record (taken_by timestamps signed.message) rest (left_as (class_by timestamps signed.message) replies)

-- what each request gets, by what is recorded when its turn comes
abbrev pub to_answer : Timestamps → Table → List (Signed Request) → (replies : List (List ℕ)) → List Answer
to_answer timestamps table [] replies = []
to_answer timestamps table (signed ∷ rest) replies =
    to_answer_as (class_by timestamps signed.message) table signed.message replies
    ++ to_answer (taken_by timestamps signed.message) (recorded_all table (to_record_as (class_by timestamps signed.message) signed.message replies)) rest
    (left_as (class_by timestamps signed.message) replies)
