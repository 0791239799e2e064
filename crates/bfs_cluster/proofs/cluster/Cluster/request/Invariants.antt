use Rattle.std.proofs.Common.{◌≡◌, length}
use Rattle.std.specs.List.{fold, range_with_len}
use Rattle.bfs_cluster.specs.Steps.{handed}
use Rattle.bfs_cluster.proofs.cluster.Cluster.request.Given as goal

abbrev pub invariant-loop-number : goal.invariant-loop-number
invariant-loop-number g l =
    (l.self ≡ fold (handed l.signed) l.fn.self (range_with_len 0 l.number)) × (length l.self.replicas ≡ length l.fn.self.replicas)
