use Rattle.bfs_node.specs.Executing.{Runs}
use Rattle.bfs_cluster.specs.Inside.Aside.{Comes}
use Rattle.bfs_cluster.proofs.cluster.Cluster.rest.Given as goal

abbrev pub invariant-loop : goal.invariant-loop
invariant-loop g l = Comes (Runs g.G.Gate.ran l.executor.engine) l.fn.self l.self
