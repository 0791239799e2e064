use Rattle.std.proofs.Common.{refl}
use Rattle.bfs_node.specs.Changing.{timed_out, timeout_refusal}
use Rattle.bfs_cluster.specs.World.{Replica}
use Rattle.bfs_cluster.proofs.Turns.{did}
use Rattle.bfs_cluster.proofs.replica.Replica.time_out.Goals as goal

pub returns-clause-done : goal.returns-clause-done
returns-clause-done c =
    let old : Replica = record { heard = c.self.inside.heard; node = c.self.inside.node } in
    rw (← c.self.view_is)
    (did timeout_refusal timed_out old (record old { node = c.timeout.new.self }) c.in-Ok.sent.items c.if-not-self.false c.in-Ok.ensures.taken refl c.in-Ok.ensures.now c.in-Ok.ensures.sent)
