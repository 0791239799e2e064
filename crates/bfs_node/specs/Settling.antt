-- A checkpoint that was executed is settled by a certificate that another replica shows (OSDI 1999 section 4.3).
use Rattle.std.specs.Prelude.{◌&&◌, Bool, not, Option, Some, None, nat_le, nat_lt, if◌then◌else◌}
use Rattle.bfs_checkpoints.specs.Keeping.{settled}
use Rattle.bfs_log.specs.Certificates.{StableCheckpoint, is_shown}
use Rattle.bfs_order.specs.Replica.Installing.{installed}
use Rattle.bfs_node.specs.Nodes.{Node}
use Rattle.bfs_node.specs.declared.error.NodeError.{NodeError}
use Rattle.bfs_node.specs.declared.error.NodeError.TheVariants as error

-- it is shown to be stable, above the low mark, and not above the number last executed
abbrev pub may_settle : Node → StableCheckpoint → Bool
may_settle node checkpoint = is_shown node.keys node.order.f checkpoint && (nat_lt node.order.low checkpoint.number && nat_le checkpoint.number node.order.last)

abbrev pub settling_refusal : Node → StableCheckpoint → Option NodeError
settling_refusal node checkpoint = if not (may_settle node checkpoint) then Some error.NoCertificate else None

-- the low mark rises to it, its CHECKPOINTs stand in the log in place of what stood up to it, and snapshots are settled
abbrev pub settling : Node → StableCheckpoint → Node
settling node checkpoint = record node { order = (installed node.order checkpoint).now; snapshots = settled checkpoint node.snapshots }
