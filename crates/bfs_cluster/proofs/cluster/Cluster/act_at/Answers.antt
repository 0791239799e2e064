use Rattle.std.proofs.Common.{None}
use Rattle.std.proofs.lemmas.Result.{on_err_weaker}
use Rattle.std.specs.Option.{option_map}
use Rattle.bfs_cluster.specs.Inside.Acts.{deed}
use Rattle.bfs_cluster.proofs.Acting.{acted_as, acts_some, sends, stands}
use Rattle.bfs_cluster.proofs.Wanting.{whatever}
use Rattle.bfs_cluster.proofs.cluster.Cluster.act_at.Goals as goal

pub returns-clause-ok : goal.returns-clause-ok
returns-clause-ok c = acted_as c.post_if.result c.args.act.now (record { replicas = c.self.inside.replicas.items; queue = c.self.inside.queue.items; replies = c.self.inside.replies.items; turn = None; watched = option_map (λ sent. sent.items) c.self.inside.watched })
    c.args.self.now c.post_if.new.self c.args.number c.index_mut.result.now c.act.new.self (option_map (λ all. all.items) c.in_ok-sent.sent)
    (stands c.self.inside.replicas.items c.args.number c.index_mut.result.now (rw (← c.self.view_is) at c.requires) c.index_mut.ensures.value) c.in_ok-sent.ensures.done c.self.view_is c.post_if.ensures.ok

pub returns-in_err-sent-clause-memory : goal.returns-in_err-sent-clause-memory
returns-in_err-sent-clause-memory c = whatever c.from_residual.result _
    (rw (← c.self.view_is) (acts_some (deed c.args.act.now) (record { replicas = c.self.inside.replicas.items; queue = c.self.inside.queue.items; replies = c.self.inside.replies.items; turn = None; watched = option_map (λ sent. sent.items) c.self.inside.watched }) c.args.number c.index_mut.result.now
    (stands c.self.inside.replicas.items c.args.number c.index_mut.result.now (rw (← c.self.view_is) at c.requires) c.index_mut.ensures.value) c.in_err-sent.ensures.memory))

pub returns-clause-memory : goal.returns-clause-memory
returns-clause-memory c = on_err_weaker c.post_if.result
    (λ some. rw (← c.self.view_is) (acts_some (deed c.args.act.now) (record { replicas = c.self.inside.replicas.items; queue = c.self.inside.queue.items; replies = c.self.inside.replies.items; turn = None; watched = option_map (λ sent. sent.items) c.self.inside.watched }) c.args.number c.index_mut.result.now
    (stands c.self.inside.replicas.items c.args.number c.index_mut.result.now (rw (← c.self.view_is) at c.requires) c.index_mut.ensures.value)
    (sends (λ all. all.items) _ c.index_mut.result.now c.act.new.self c.in_ok-sent.sent c.in_ok-sent.ensures.done some)))
    c.post_if.ensures.memory
