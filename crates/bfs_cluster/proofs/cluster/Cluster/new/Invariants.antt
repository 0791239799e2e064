use Rattle.std.proofs.Common.{◌≡◌, map}
use Rattle.std.specs.List.{range_with_len}
use Rattle.bfs_cluster.specs.World.{new_replica}
use Rattle.bfs_cluster.proofs.cluster.Cluster.new.Given as goal

abbrev pub invariant-loop-number : goal.invariant-loop-number
invariant-loop-number l = l.replicas.items ≡ map (new_replica l.settings) (range_with_len 0 l.number)
