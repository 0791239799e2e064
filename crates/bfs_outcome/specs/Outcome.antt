-- What an ordered batch makes of a file system and of the last replies to clients, and which requests are answered (OSDI 1999 section
-- 4.1): one request after another, all at one time.
use Rattle.std.specs.Prelude.{ℕ, List, [], ◌∷◌, ◌++◌, Option, Some, None}
use Rattle.bfs_model.specs.Server.Tree.{Time, Inodes, FileSystem}
use Rattle.bfs_model.specs.Server.Serial as serial
use Rattle.bfs_model.specs.Server.Serial.{effective_time, ordinal_after}
use Rattle.bfs_messages.specs.Messages.{Request, Batch}
use Rattle.bfs_messages.specs.declared.signed.Signed.{Signed}
use Rattle.bfs_replies.specs.Answers.{Answer}
use Rattle.bfs_replies.specs.Classes.{class_of}
use Rattle.bfs_replies.specs.Tables.{Last, Table, last_of, recorded}
use Rattle.bfs_replies.specs.declared.tables.Class.{Class}
use Rattle.bfs_replies.specs.declared.tables.Class.TheVariants.{New, Repeat, Old, Unknown}

-- One request ------------------------------------------------------------------------------------------------------

-- where the execution of a batch stands: the inodes, the next ordinal, and the last replies
pub record Standing : Type 0 where
  pub inodes : Inodes
  pub ordinal : ℕ
  pub table : Table

-- what a new request is executed to
abbrev pub executed : Standing → Time → Request → Inodes × List ℕ
executed standing time request = serial.answer standing.inodes standing.ordinal time request.call

-- a new request takes the next ordinal, and its reply is recorded
abbrev pub standing_as : Class → Standing → Time → Request → Standing
standing_as New standing time request = record {
  inodes = (executed standing time request).0;
  ordinal = ordinal_after standing.ordinal 1;
  table = recorded standing.table request.client request.timestamp (executed standing time request).1;
}
standing_as Repeat standing time request = standing
standing_as Old standing time request = standing
standing_as Unknown standing time request = standing

abbrev pub answer_to : Request → (reply : List ℕ) → Answer
answer_to request reply = record { client = request.client; timestamp = request.timestamp; reply = reply }

abbrev pub answer_again : Request → Option Last → List Answer
answer_again request None = []
answer_again request (Some last) = answer_to request last.reply ∷ []

-- a new request gets the reply that it is executed to, a repeated one that which is recorded
abbrev pub answers_as : Class → Standing → Time → Request → List Answer
answers_as New standing time request = answer_to request (executed standing time request).1 ∷ []
answers_as Repeat standing time request = answer_again request (last_of standing.table request.client)
answers_as Old standing time request = []
answers_as Unknown standing time request = []

-- Requests one after another -----------------------------------------------------------------------------------------

-- what the request is to its client's last one
abbrev pub class_at : Standing → Request → Class
class_at standing request = class_of standing.table request.client request.timestamp

abbrev pub stands : Standing → Time → Request → Standing
stands standing time request = standing_as (class_at standing request) standing time request

abbrev pub standing_after : Standing → Time → List (Signed Request) → Standing
standing_after standing time [] = standing
standing_after standing time (signed ∷ rest) = standing_after (stands standing time signed.message) time rest

abbrev pub answers_to : Standing → Time → List (Signed Request) → List Answer
answers_to standing time [] = []
answers_to standing time (signed ∷ rest) =
    answers_as (class_at standing signed.message) standing time signed.message ++ answers_to (stands standing time signed.message) time rest

-- A batch --------------------------------------------------------------------------------------------------------------

pub record Outcome : Type 0 where
  pub files : FileSystem
  pub table : Table
  -- by the order of the requests
  pub answers : List Answer

abbrev pub at_start : FileSystem → Table → Standing
at_start files table = record { inodes = files.tree; ordinal = files.next_ordinal; table = table }

abbrev pub files_of : Standing → Time → FileSystem
files_of standing time = record { tree = standing.inodes; next_ordinal = standing.ordinal; last_time = time }

abbrev pub outcome_at : FileSystem → Table → Time → List (Signed Request) → Outcome
outcome_at files table time requests =
    let standing = standing_after (at_start files table) time requests in
    record { files = files_of standing time; table = standing.table; answers = answers_to (at_start files table) time requests }

-- the null request changes nothing
unfoldable pub outcome : FileSystem → Table → Batch → Outcome
outcome files table None = record { files = files; table = table; answers = [] }
outcome files table (Some requests) = outcome_at files table (effective_time files.last_time requests.time) requests.requests
