use Rattle.std.proofs.Common.{ℕ}
use Rattle.bfs_node.specs.Executing.{Runs}
use Rattle.bfs_cluster.specs.CatchingUp.{Times}
use Rattle.bfs_cluster.specs.Steps.{Round}
use Rattle.bfs_cluster.proofs.cluster.Cluster.go_on.Given as goal

abbrev pub invariant-loop : goal.invariant-loop
invariant-loop g l = (rounds : ℕ) × Times (Round (Runs g.G.Gate.ran l.executor.engine)) rounds l.fn.self l.self
