-- What a gate has run of an ordered batch.
use Rattle.std.specs.Prelude.{ℕ, ⊤, List, [], ◌∷◌, ◌++◌, Some, None, map}
use Rattle.bfs_model.specs.Server.Tree.{Time, FileSystem}
use Rattle.bfs_model.specs.Server.Serial.{effective_time}
use Rattle.bfs_messages.specs.Messages.{Request, Batch}
use Rattle.bfs_messages.specs.declared.signed.Signed.{Signed}
use Rattle.bfs_parallel.specs.Ran.{AllRan}
use Rattle.bfs_replies.specs.Tables.{Table}
use Rattle.bfs_replies.specs.declared.tables.Class.{Class}
use Rattle.bfs_replies.specs.declared.tables.Class.TheVariants.{New, Repeat, Old, Unknown}
use Rattle.bfs_outcome.specs.Outcome.{Standing, at_start, class_at, executed, stands}

-- a call, and the reply that it is executed to
pub record Execution : Type 0 where
  pub call : List ℕ
  pub reply : List ℕ

-- only a new request is executed
abbrev pub execution_as : Class → Standing → Time → Request → List Execution
execution_as New standing time request = record { call = request.call; reply = (executed standing time request).1 } ∷ []
execution_as Repeat standing time request = []
execution_as Old standing time request = []
execution_as Unknown standing time request = []

-- the new ones of the requests, in their order
abbrev pub executions : Standing → Time → List (Signed Request) → List Execution
executions standing time [] = []
executions standing time (signed ∷ rest) =
    execution_as (class_at standing signed.message) standing time signed.message ++ executions (stands standing time signed.message) time rest

-- the gate has run each new request of a batch, but those that may touch any inode: the first of them as number 0
unfoldable pub RanNew : (ran : ℕ → List ℕ → Type 0) → FileSystem → Table → Batch → Type 0
RanNew ran files table None = ⊤
RanNew ran files table (Some requests) =
    let news = executions (at_start files table) (effective_time files.last_time requests.time) requests.requests in
    AllRan ran 0 (map (λ one. one.call) news) (map (λ one. one.reply) news)
