use Rattle.std.proofs.Common.{◌∙◌, None, ap}
use Rattle.std.proofs.lemmas.Result.{on_ok_weaker}
use Rattle.std.specs.Option.{option_map}
use Rattle.bfs_cluster.specs.Steps.{delivery, handed}
use Rattle.bfs_cluster.specs.World.{World}
use Rattle.bfs_cluster.proofs.Acting.{acted_at, stands}
use Rattle.bfs_cluster.proofs.cluster.Cluster.hand.Goals as goal

pub returns : goal.returns
returns g c = on_ok_weaker c.post_if.result
    (λ is. is
    ∙ acted_at (delivery c.args.signed) (record { replicas = c.self.inside.replicas.items; queue = c.self.inside.queue.items; replies = c.self.inside.replies.items; turn = None; watched = option_map (λ sent. sent.items) c.self.inside.watched })
    c.args.number c.index_mut.result.now c.take.new.self (option_map (λ all. all.items) c.in_ok-sent.sent)
    (stands c.self.inside.replicas.items c.args.number c.index_mut.result.now (rw (← c.self.view_is) at c.requires) c.index_mut.ensures.value) c.in_ok-sent.ensures.done
    ∙ ap (λ (world : World). handed c.args.signed world c.args.number) c.self.view_is)
    c.post_if.ensures.ok
