use Rattle.bfs_cluster.proofs.Catching.{one_more_caught}
use Rattle.bfs_cluster.proofs.Wanting.{caught_some, whatever}
use Rattle.bfs_cluster.proofs.cluster.Cluster.catch_up.Goals as goal

pub loop-preserved : goal.loop-preserved
loop-preserved g c = one_more_caught c.loop.any c.in_ok-adopt_lowest.field-0 c.args.self.now c.loop.self c.adopt_lowest.new.self c.if-not-branch.false c.in_ok-adopt_lowest.ensures.caught c.loop.invariant

pub returns-in_err-adopt_lowest-clause-memory : goal.returns-in_err-adopt_lowest-clause-memory
returns-in_err-adopt_lowest-clause-memory g c = whatever c.from_residual.result _ (caught_some c.loop.any c.args.self.now c.loop.self c.loop.invariant c.in_err-adopt_lowest.ensures.memory)
