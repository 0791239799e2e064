use Rattle.bfs_order.proofs.KeptLogs.{same_replica}
use Rattle.bfs_order.proofs.laws.a_replica_stays_itself.Goals as goal

pub returns : goal.returns
returns c = same_replica
