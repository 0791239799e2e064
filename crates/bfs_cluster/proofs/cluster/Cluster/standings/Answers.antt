use Rattle.std.proofs.Common.{ap, sym, ◌∙◌}
use Rattle.bfs_cluster.specs.World.{Replica, World}
use Rattle.bfs_cluster.proofs.Requesting.{heard_at}
use Rattle.bfs_cluster.proofs.Wanting.{whatever}
use Rattle.bfs_cluster.proofs.cluster.Cluster.standings.Goals as goal

pub returns-in_err-push-clause-memory : goal.returns-in_err-push-clause-memory
returns-in_err-push-clause-memory g c = whatever c.from_residual-in_err-push.result _
    (heard_at c.args.self.now c.deref-replica-items.result.now c.loop-number.number c.replica-item.result
    (c.deref-replica-items.ensures.value ∙ ap (λ (world : World). world.replicas) c.self.view_is)
    c.loop-number-test.true c.replica-item.is (sym (ap (λ (replica : Replica). replica.heard) c.replica.view_is) ∙ c.if-replica.true))
