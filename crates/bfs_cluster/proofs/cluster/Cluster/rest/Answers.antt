use Rattle.bfs_node.specs.Executing.{Runs}
use Rattle.bfs_cluster.proofs.Settling.{more_steps}
use Rattle.bfs_cluster.proofs.Wanting.{was_left, whatever}
use Rattle.bfs_cluster.proofs.cluster.Cluster.rest.Goals as goal

pub loop-preserved : goal.loop-preserved
loop-preserved g c =
    more_steps (Runs g.G.Gate.ran c.args.executor.now.engine) c.args.self.now c.loop.self c.go.new.self c.in_ok-go.field-0 c.if-not-branch.false c.in_ok-go.ensures.goes c.loop.invariant

pub returns-in_err-go-clause-memory : goal.returns-in_err-go-clause-memory
returns-in_err-go-clause-memory g c = whatever c.from_residual.result _ (was_left c.args.self.now c.loop.self c.loop.invariant.steps c.loop.invariant.comes c.in_err-go.ensures.memory)
