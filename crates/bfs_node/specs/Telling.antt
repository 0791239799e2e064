-- What a replica has told of a number is offered to others, whether it is stable or not (OSDI 1999 section 4.3).
use Rattle.std.specs.Prelude.{ℕ, List, Option}
use Rattle.std.specs.Option.{option_map}
use Rattle.bfs_checkpoints.specs.Certificates.{checkpoints}
use Rattle.bfs_checkpoints.specs.Keeping.{snapshot_at}
use Rattle.bfs_checkpoints.specs.Snapshots.{Snapshot}
use Rattle.bfs_messages.specs.Messages.{Checkpoint}
use Rattle.bfs_messages.specs.declared.signed.Signed.{Signed}
use Rattle.bfs_node.specs.Nodes.{Node}

-- the CHECKPOINTs of the log that tell that digest of a number
abbrev pub checkpoints_of : Node → (number : ℕ) → (digest : List ℕ) → List (Signed Checkpoint)
checkpoints_of node number digest = checkpoints number digest node.order.log

-- the snapshot of a number that it keeps, and the CHECKPOINTs that tell its digest
abbrev pub told : Node → (number : ℕ) → Option (Snapshot × List (Signed Checkpoint))
told node number =
    option_map {U = Snapshot × List (Signed Checkpoint)} (λ snapshot. (snapshot, checkpoints_of node number snapshot.digest)) (snapshot_at number node.snapshots)
