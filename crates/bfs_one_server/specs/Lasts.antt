-- Where the last replies of a state come from, which a replica gives again.
use Rattle.std.specs.Prelude.{◌≡◌, ℕ, suc, ◌<◌, Bool, false, Some, ◌⊎◌}
use Rattle.bfs_model.specs.Server.Tree.{FileSystem}
use Rattle.bfs_messages.specs.Messages.{Batch}
use Rattle.bfs_agreement.specs.Histories.{IsIn}
use Rattle.bfs_outcome.specs.Outcome.{outcome}
use Rattle.bfs_replies.specs.Answers.{last_answer}
use Rattle.bfs_replies.specs.Tables.{Last, Table, last_of}
use Rattle.bfs_nodes_agree.specs.Nodes.Laws.{ComesOfBatches, Executed}
use Rattle.bfs_nodes_agree.specs.Nodes.Replicas.{Beginning, NodeReplicas}

-- it is the answer to a request in a batch that a correct replica executed as one of the numbers up to that one, on the state before it
pub record WasAnswered (start : Beginning) (faulty : ℕ → Bool) (w : NodeReplicas) (number client : ℕ) (last : Last) : Type 0 where
  pub before : ℕ
  pub below : before < number
  pub files : FileSystem
  pub table : Table
  pub comes : ComesOfBatches start faulty w before files table
  pub who : ℕ
  pub correct : faulty who ≡ false
  pub batch : Batch
  pub executed : Executed (w who) (suc before) batch
  pub given : IsIn (last_answer client last) (outcome files table batch).answers

-- so is each last reply of a state that comes of batches, but for those with which all began
abbrev pub LastRepliesWereAnswered : Type 0
LastRepliesWereAnswered = (start : Beginning) (faulty : ℕ → Bool) (w : NodeReplicas) (number : ℕ) (files : FileSystem) (table : Table) → ComesOfBatches start faulty w number files table
    → (client : ℕ) (last : Last) → last_of table client ≡ Some last → WasAnswered start faulty w number client last ⊎ (last_of start.table client ≡ Some last)
