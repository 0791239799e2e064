-- Replicas that execute the same batches one after another.
use Rattle.std.specs.Prelude.{◌≡◌, List, [], ◌∷◌, Option, Some}
use Rattle.bfs_model.specs.Server.Tree.{FileSystem}
use Rattle.bfs_messages.specs.Messages.{Batch}
use Rattle.bfs_replies.specs.Answers.{Answer, recorded_all}
use Rattle.bfs_replies.specs.Tables.{Table}
use Rattle.bfs_outcome.specs.Executed.{ComesTo}
use Rattle.bfs_outcome.specs.Outcome.{outcome}

-- what batches are executed on: the file system, if it has not failed, and the last replies
pub record Replica : Type 0 where
  pub files : Option FileSystem
  pub table : Table

abbrev pub live : FileSystem → Table → Replica
live files table = record { files = Some files; table = table }

-- a batch is executed, by whatever executor, and what is to be recorded is recorded
pub record Executes (old : Replica) (batch : Batch) (new : Replica) (answers : List Answer) : Type 0 where
  pub to_record : List Answer
  pub executed : ComesTo old.files old.table batch new.files to_record answers
  pub recorded : new.table ≡ recorded_all old.table to_record

-- the same of batches one after another, each with its answers
abbrev pub ExecutesAll : (old : Replica) → List Batch → (new : Replica) → List (List Answer) → Type 0
ExecutesAll old [] new answers = (new ≡ old) × (answers ≡ [])
ExecutesAll old (batch ∷ rest) new answers =
    (next : Replica) × (first : List Answer) × (more : List (List Answer)) × Executes old batch next first × ExecutesAll next rest new more × (answers ≡ first ∷ more)

-- what the outcomes of batches one after another come to
abbrev pub replica_after : FileSystem → Table → List Batch → Replica
replica_after files table [] = live files table
replica_after files table (batch ∷ rest) = replica_after (outcome files table batch).files (outcome files table batch).table rest

abbrev pub answers_after : FileSystem → Table → List Batch → List (List Answer)
answers_after files table [] = []
answers_after files table (batch ∷ rest) = (outcome files table batch).answers ∷ answers_after (outcome files table batch).files (outcome files table batch).table rest

-- a replica comes to just these
abbrev pub ReplicasComeToTheOutcomes : Type 0
ReplicasComeToTheOutcomes = (files : FileSystem) (table : Table) (batches : List Batch) (new : Replica) (answers : List (List Answer))
    → ExecutesAll (live files table) batches new answers → (new ≡ replica_after files table batches) × (answers ≡ answers_after files table batches)

-- so two that begin with equal file systems and tables end so, and answer alike
abbrev pub EqualReplicasStayEqual : Type 0
EqualReplicasStayEqual = (one other one_new other_new : Replica) (batches : List Batch) (one_answers other_answers : List (List Answer))
    → one ≡ other → ExecutesAll one batches one_new one_answers → ExecutesAll other batches other_new other_answers
    → (one_new ≡ other_new) × (one_answers ≡ other_answers)
