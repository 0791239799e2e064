use Rattle.bfs_cluster.proofs.Catching.{CaughtSoFar}
use Rattle.bfs_cluster.proofs.cluster.Cluster.catch_up.Given as goal

abbrev pub invariant-loop : goal.invariant-loop
invariant-loop g l = CaughtSoFar l.any l.fn.self l.self
