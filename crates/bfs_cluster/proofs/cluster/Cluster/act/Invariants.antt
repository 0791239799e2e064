use Rattle.std.proofs.Common.{◌≡◌, length}
use Rattle.std.specs.List.{fold, range_with_len}
use Rattle.bfs_cluster.specs.Inside.Acts.{acting}
use Rattle.bfs_cluster.proofs.Acting.{IsToCome}
use Rattle.bfs_cluster.proofs.cluster.Cluster.act.Given as goal

abbrev pub invariant-loop-number : goal.invariant-loop-number
invariant-loop-number l =
    ((l.self ≡ fold (acting l.act) l.fn.self (range_with_len 0 l.number)) × (length l.self.replicas ≡ length l.fn.self.replicas)) × IsToCome l.number l.fn.self l.self
