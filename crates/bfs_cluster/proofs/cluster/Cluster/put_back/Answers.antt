use Rattle.bfs_cluster.proofs.Aside.{one_back}
use Rattle.bfs_cluster.proofs.cluster.Cluster.put_back.Goals as goal

pub loop-one-preserved : goal.loop-one-preserved
loop-one-preserved c =
    one_back c.loop-one.done c.put_one-done.result c.args.self.now c.loop-one.self c.put_one-done.new.self c.args.all.items c.next.new.self.rest.items c.loop-one.one-iterator.rest.items c.in-Some.one
    c.in-Some.ensures.steps.0 c.put_one-done.ensures c.loop-one.invariant
