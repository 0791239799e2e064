-- What comes of a call by which a replica may go on.
use Rattle.std.specs.Prelude.{◌≡◌, ◌<◌, ℕ}
use Rattle.bfs_node.specs.Advancing.{advanced, with_due_checkpoint}
use Rattle.bfs_node.specs.Nodes.{Messages, Node}

-- a checkpoint was made where one was due, and its message is behind what was to be sent
abbrev pub CheckpointsAfter : (old : Node) → (to_send : Messages) → (new : Node) → (sent : Messages) → Type 0
CheckpointsAfter old to_send new sent = with_due_checkpoint (record { now = old; sent = to_send }) ≡ record { now = new; sent = sent }

-- some batches were executed, and that is sent so far
pub record HasAdvanced (Executes : Node → Type 0) (node : Node) (sent : Messages) (now : Node) : Type 0 where
  pub batches : ℕ
  pub comes : advanced batches node ≡ record { now = now; sent = sent }
  pub executes : (k : ℕ) → k < batches → Executes (advanced k node).now
