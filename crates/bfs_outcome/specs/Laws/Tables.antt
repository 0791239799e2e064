-- What an outcome has to do with the clients of the table.
use Rattle.std.specs.Prelude.{◌≡◌, ◌<◌, All, length}
use Rattle.bfs_model.specs.Server.Tree.{FileSystem}
use Rattle.bfs_messages.specs.Messages.{Batch}
use Rattle.bfs_replies.specs.Tables.{Table}
use Rattle.bfs_outcome.specs.Outcome.{outcome}

-- only a client of the table is answered
abbrev pub AnswersGoToClients : Type 0
AnswersGoToClients = (files : FileSystem) (table : Table) (batch : Batch) → All (λ answer. answer.client < length table) (outcome files table batch).answers

-- and no client comes or goes
abbrev pub ClientsStay : Type 0
ClientsStay = (files : FileSystem) (table : Table) (batch : Batch) → length (outcome files table batch).table ≡ length table
