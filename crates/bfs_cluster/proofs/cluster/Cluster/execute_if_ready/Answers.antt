use Rattle.std.proofs.Common.{sym, ◌∙◌}
use Rattle.bfs_node.specs.Executing.{Runs}
use Rattle.bfs_cluster.proofs.Aside.{turns_begin}
use Rattle.bfs_cluster.proofs.Wanting.{begins, whatever}
use Rattle.bfs_cluster.proofs.cluster.Cluster.execute_if_ready.Goals as goal

pub returns-clause-goes : goal.returns-clause-goes
returns-clause-goes g c =
    turns_begin (Runs g.G.Gate.ran c.args.executor.now.engine) c.args.self.now c.execute_each.new.self c.requires.turn c.requires.queue
    (sym c.is_any_ready.ensures ∙ c.if-not-is_any_ready.false) c.in_ok-execute_each.ensures

pub returns-in_err-execute_each-clause-memory : goal.returns-in_err-execute_each-clause-memory
returns-in_err-execute_each-clause-memory g c =
    whatever c.from_residual.result _ (begins c.args.self.now c.requires.turn c.requires.queue (sym c.is_any_ready.ensures ∙ c.if-not-is_any_ready.false))
