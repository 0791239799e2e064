use Rattle.std.proofs.Common.{◌≡◌, max, drop}
use Rattle.bfs_cluster.specs.Standings.{most_executed}
use Rattle.bfs_cluster.proofs.cluster.Cluster.most_executed.Given as goal

abbrev pub invariant-loop-replica : goal.invariant-loop-replica
invariant-loop-replica l = max l.most (most_executed (drop l.replica-index l.self.replicas)) ≡ most_executed l.self.replicas
