-- What has come of an ordered batch on a file system that may have failed.
use Rattle.std.specs.Prelude.{◌≡◌, List, Option, Some, None}
use Rattle.bfs_model.specs.Server.Tree.{FileSystem}
use Rattle.bfs_messages.specs.Messages.{Batch}
use Rattle.bfs_replies.specs.Answers.{Answer, recorded_all}
use Rattle.bfs_replies.specs.Tables.{Table}
use Rattle.bfs_outcome.specs.Outcome.{outcome}

-- a live file system went over to the outcome's; the table does so too once the replies are recorded; and the answers are the outcome's
abbrev pub ComesTo : Option FileSystem → Table → Batch → Option FileSystem → (to_record to_answer : List Answer) → Type 0
ComesTo None table batch new to_record to_answer = ⊥
ComesTo (Some live) table batch new to_record to_answer =
    (new ≡ Some (outcome live table batch).files) × (recorded_all table to_record ≡ (outcome live table batch).table) × (to_answer ≡ (outcome live table batch).answers)
