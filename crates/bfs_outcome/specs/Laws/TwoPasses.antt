-- What ties the two passes to the outcome of one request after another.
use Rattle.std.specs.Prelude.{◌≡◌, ◌≤◌, Some}
use Rattle.bfs_model.specs.Server.Serial.{execute}
use Rattle.bfs_model.specs.Server.Tree.{FileSystem, spent_ordinal}
use Rattle.bfs_messages.specs.Messages.{Requests}
use Rattle.bfs_replies.specs.Answers.{recorded_all}
use Rattle.bfs_replies.specs.Classes.{timestamps_of}
use Rattle.bfs_replies.specs.Tables.{Table}
use Rattle.bfs_outcome.specs.Outcome.{outcome}
use Rattle.bfs_outcome.specs.Inside.Passes.{new_batch, to_answer, to_record}

-- file system, table and answers are those of executing the new requests as one batch, and of recording and telling the replies afterwards
abbrev pub TwoPassesComeToTheOutcome : Type 0
TwoPassesComeToTheOutcome = (files : FileSystem) (table : Table) (requests : Requests) → files.next_ordinal ≤ spent_ordinal
    → ((outcome files table (Some requests)).files ≡ (execute files (new_batch table requests.time requests.requests)).0)
    × ((outcome files table (Some requests)).table ≡ recorded_all table (to_record (timestamps_of table) requests.requests (execute files (new_batch table requests.time requests.requests)).1))
    × ((outcome files table (Some requests)).answers ≡ to_answer (timestamps_of table) table requests.requests (execute files (new_batch table requests.time requests.requests)).1)
