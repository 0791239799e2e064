-- What the parts of a replica have in common.
use Rattle.std.specs.Prelude.{◌≡◌, length}
use Rattle.bfs_pending.specs.Passed.{HavePassed}
use Rattle.bfs_node.specs.Nodes.{Node}

-- the same faults are tolerated in its order and by its snapshots, it has a key for each client, and each request that waits was found to be its client's
pub record IsWhole (node : Node) : Type 0 where
  pub faults : node.snapshots.f ≡ node.order.f
  pub clients : length node.keys.clients ≡ length node.table
  pub passed : HavePassed node.keys node.pending
