use Rattle.std.proofs.Common.{◌≡◌, true, drop}
use Rattle.bfs_log.specs.Certificates.{as_checkpoints}
use Rattle.bfs_order.specs.Inside.Senders.{are_from_few}
use Rattle.bfs_order.specs.Replica.Installing.{with_each}
use Rattle.bfs_order.proofs.installing.certified.Given as goal

abbrev pub invariant-loop-checkpoint : goal.invariant-loop-checkpoint
invariant-loop-checkpoint l =
    (with_each l.copy (as_checkpoints (drop l.checkpoint-index l.stable.checkpoints)) ≡ with_each l.initial.copy (as_checkpoints l.stable.checkpoints)) × (are_from_few (as_checkpoints (drop l.checkpoint-index l.stable.checkpoints)) ≡ true)
