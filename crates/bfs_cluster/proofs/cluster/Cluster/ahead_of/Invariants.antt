use Rattle.std.proofs.Common.{◌≡◌, drop}
use Rattle.bfs_cluster.specs.CatchingUp.{ahead_of}
use Rattle.bfs_cluster.proofs.cluster.Cluster.ahead_of.Given as goal

abbrev pub invariant-loop-replica : goal.invariant-loop-replica
invariant-loop-replica l = ahead_of l.last (drop l.replica-index l.self.replicas) ≡ ahead_of l.last l.self.replicas
