-- What is left to be done once a batch was executed.
use Rattle.std.specs.Prelude.{ℕ, List, [], Option, Some, None}
use Rattle.bfs_model.specs.Server.Tree.{FileSystem}
use Rattle.bfs_messages.specs.Messages.{Batch}
use Rattle.bfs_order.specs.Replica.Executing.{executed}
use Rattle.bfs_outcome.specs.Outcome.{outcome}
use Rattle.bfs_pending.specs.Requests.{without}
use Rattle.bfs_replies.specs.Answers.{Answer, recorded_all}
use Rattle.bfs_node.specs.Nodes.{Node}

abbrev pub with_files : Node → Option FileSystem → Node
with_files node files = record node { files = files }

abbrev pub answers_on : Node → Batch → Option FileSystem → List Answer
answers_on node batch None = []
answers_on node batch (Some files) = (outcome files node.table batch).answers

-- what clients are told of a batch
abbrev pub answers_in : Node → Batch → List Answer
answers_in node batch = answers_on node batch node.files

-- replies are recorded, it counts as executed, and the requests of a batch wait no longer
abbrev pub finished_by : Node → (number : ℕ) → List Answer → Batch → Node
finished_by node number to_record batch = record node {
  order = (executed node.order number).now;
  table = recorded_all node.table to_record;
  pending = without node.pending batch;
}
