use Rattle.std.proofs.Common.{◌≡◌, ◌++◌, List, drop}
use Rattle.std.specs.Option.{option_map}
use Rattle.bfs_cluster.specs.Standings.{standings, standings_from}
use Rattle.bfs_cluster.specs.declared.standings.Standing.{Standing}
use Rattle.bfs_cluster.proofs.cluster.Cluster.standings.Given as goal

abbrev pub invariant-loop-number : goal.invariant-loop-number
invariant-loop-number g l =
    option_map (λ (more : List Standing). l.all.items ++ more) (standings_from l.most l.number (drop l.number l.self.replicas)) ≡ standings l.self
