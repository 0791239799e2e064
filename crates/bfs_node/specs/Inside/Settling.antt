-- Snapshots are settled by the CHECKPOINTs of a number, where the low mark is at it.
use Rattle.std.specs.Prelude.{◌≡◌, ℕ, ◌==◌, true, [], ◌∷◌, ◌++◌, Option, Some, None, if◌then◌else◌}
use Rattle.bfs_checkpoints.specs.Certificates.{told_checkpoint}
use Rattle.bfs_checkpoints.specs.Keeping.{settled}
use Rattle.bfs_log.specs.Headers.{header}
use Rattle.bfs_log.specs.Certificates.{StableCheckpoint}
use Rattle.bfs_messages.specs.declared.signed.Signed.{Signed}
use Rattle.bfs_messages.specs.declared.order_messages.OrderMessage.{OrderMessage}
use Rattle.bfs_order.specs.Replica.Accepting.{makes_stable}
use Rattle.bfs_order.specs.Replica.States.{State, with_message}
use Rattle.bfs_node.specs.Nodes.{Node}

-- where a CHECKPOINT makes its number stable, this has the CHECKPOINTs that tell it then
abbrev pub Certifies : State → Signed OrderMessage → Option StableCheckpoint → Type 0
Certifies s m stable =
    makes_stable (with_message s m) (header m) ≡ true → stable ≡ Some (told_checkpoint (header m).number (header m).digest (s.log ++ m ∷ []))

abbrev pub settled_with : Node → Option StableCheckpoint → Node
settled_with node None = node
settled_with node (Some stable) = record node { snapshots = settled stable node.snapshots }

abbrev pub settled_at : Node → (number : ℕ) → Option StableCheckpoint → Node
settled_at node number stable = if node.order.low == number then settled_with node stable else node
