-- Requests that wait at the primary of members are proposed, and executed.
use Rattle.std.specs.Prelude.{◌≡◌, ℕ, zero, suc, ◌<◌, List, [], ◌∷◌, ◌++◌, true}
use Rattle.bfs_messages.specs.Messages.{Batch}
use Rattle.bfs_model.specs.Server.Tree.{Time}
use Rattle.bfs_order.specs.Replica.Proposing.{batch_digest}
use Rattle.bfs_votes.specs.Votes.{primary}
use Rattle.bfs_node.specs.Nodes.{Node}
use Rattle.bfs_nodes_agree.specs.Nodes.Laws.{Executed}
use Rattle.bfs_nodes_agree.specs.Nodes.Replicas.{NodeReplica, NodeTurn}
use Rattle.bfs_nodes_agree.specs.Nodes.Steps.{Executes, Proposes}
use Rattle.bfs_nodes_progress.specs.Members.{is_committed}

-- the primary of the view proposes at that time
abbrev pub proposing : (f view : ℕ) → Time → List NodeTurn
proposing f view time = record { who = primary f view; step = Proposes time } ∷ []

-- a node executes so many batches
abbrev pub executions : (who count : ℕ) → List NodeTurn
executions who zero = []
executions who (suc count) = executions who count ++ record { who = who; step = Executes } ∷ []

-- it has not executed the number, and each one between is committed in its view
pub record IsReadyFor (node : Node) (number : ℕ) : Type 0 where
  pub above : node.order.last < number
  pub between : (other : ℕ) → node.order.last < other → other < number → (digest : List ℕ) × (is_committed node.order node.order.view other digest ≡ true)

-- a batch of that digest was executed as the number
pub record HasExecuted (r : NodeReplica) (number : ℕ) (digest : List ℕ) : Type 0 where
  pub batch : Batch
  pub executed : Executed r number batch
  pub is : batch_digest batch ≡ digest
