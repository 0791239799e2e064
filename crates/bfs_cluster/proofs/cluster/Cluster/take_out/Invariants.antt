use Rattle.std.proofs.Common.{◌≡◌, ◌++◌, [], All, map}
use Rattle.bfs_cluster.proofs.cluster.Cluster.take_out.Given as goal

abbrev pub invariant-loop-replica : goal.invariant-loop-replica
invariant-loop-replica l =
    (map (λ one. one.replica) l.all.items ++ l.replica-iterator.rest.items ≡ l.fn.self.replicas) × All (λ one. one.sent.items ≡ []) l.all.items
