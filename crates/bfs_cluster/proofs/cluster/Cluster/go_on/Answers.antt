use Rattle.std.proofs.Common.{inl}
use Rattle.bfs_node.specs.Executing.{Runs}
use Rattle.bfs_cluster.proofs.Catching.{one_more_round}
use Rattle.bfs_cluster.proofs.Wanting.{by_rounds, rested, whatever}
use Rattle.bfs_cluster.proofs.cluster.Cluster.go_on.Goals as goal

pub loop-preserved : goal.loop-preserved
loop-preserved g c =
    one_more_round (Runs g.G.Gate.ran c.args.executor.now.engine) c.in_ok-catch_up.field-0 c.args.self.now c.loop.self c.rest.new.self c.catch_up.new.self c.if-not-branch.false
    c.in_ok-rest.ensures.ok c.in_ok-catch_up.ensures.caught c.loop.invariant

pub returns-in_err-rest-clause-memory : goal.returns-in_err-rest-clause-memory
returns-in_err-rest-clause-memory g c = whatever c.from_residual.result _
    (by_rounds (Runs g.G.Gate.ran c.args.executor.now.engine) c.loop.invariant.0 c.args.self.now c.loop.self c.loop.invariant.1 (inl c.in_err-rest.ensures.memory))

pub returns-in_err-catch_up-clause-memory : goal.returns-in_err-catch_up-clause-memory
returns-in_err-catch_up-clause-memory g c =
    let Executes = Runs g.G.Gate.ran c.args.executor.now.engine in
    whatever c.from_residual-in_err-catch_up.result _
    (by_rounds Executes c.loop.invariant.0 c.args.self.now c.loop.self c.loop.invariant.1 (rested Executes c.loop.self c.rest.new.self c.in_ok-rest.ensures.ok c.in_err-catch_up.ensures.memory))
