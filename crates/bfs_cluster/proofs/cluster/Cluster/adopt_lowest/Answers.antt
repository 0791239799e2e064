use Rattle.std.proofs.Common.{subst}
use Rattle.std.specs.Prelude.{IsSome}
use Rattle.bfs_cluster.specs.CatchingUp.{offer_to}
use Rattle.bfs_cluster.specs.World.{World}
use Rattle.bfs_cluster.proofs.Wanting.{whatever}
use Rattle.bfs_cluster.proofs.cluster.Cluster.adopt_lowest.Goals as goal

pub returns-in_err-adopt_at-clause-memory : goal.returns-in_err-adopt_at-clause-memory
returns-in_err-adopt_at-clause-memory g c = whatever c.from_residual.result _
    (c.loop-number.number, subst (λ (world : World). IsSome (offer_to world c.loop-number.number)) c.loop-number.invariant.0 c.in_err-adopt_at.ensures.memory)
