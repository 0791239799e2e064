use Rattle.std.proofs.Common.{map}
use Rattle.bfs_node.specs.Executing.{Runs}
use Rattle.bfs_cluster.specs.Inside.Aside.{Ran}
use Rattle.bfs_cluster.proofs.replica.Replica.execute_all.Given as goal

abbrev pub invariant-loop : goal.invariant-loop
invariant-loop g l = Ran (Runs g.G.Gate.ran l.executor.engine) (map (λ sent. sent.items) l.all.items) l.fn.self l.self
