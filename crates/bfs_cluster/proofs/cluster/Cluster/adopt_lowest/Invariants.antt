use Rattle.std.proofs.Common.{◌≡◌, ◌<◌, ℕ}
use Rattle.bfs_cluster.specs.CatchingUp.{StaysBehind}
use Rattle.bfs_cluster.proofs.cluster.Cluster.adopt_lowest.Given as goal

abbrev pub invariant-loop-number : goal.invariant-loop-number
invariant-loop-number g l = (l.self ≡ l.fn.self) × ((k : ℕ) → k < l.number → StaysBehind l.fn.self k)
