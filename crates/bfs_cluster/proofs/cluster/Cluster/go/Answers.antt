use Rattle.std.proofs.Common.{◌∙◌, ap, sym}
use Rattle.bfs_node.specs.Executing.{Runs}
use Rattle.bfs_cluster.specs.Steps.{delivering}
use Rattle.bfs_cluster.specs.World.{World}
use Rattle.bfs_cluster.proofs.Settling.{delivers}
use Rattle.bfs_cluster.proofs.cluster.Cluster.go.Goals as goal

pub returns-in_ok-deliver-in-Some-clause-goes : goal.returns-in_ok-deliver-in-Some-clause-goes
returns-in_ok-deliver-in-Some-clause-goes g c =
    let rest = c.pop_front.new.self.items in
    delivers (Runs g.G.Gate.ran c.args.executor.now.engine) c.args.self.now c.deliver.new.self c.in-Some.broadcast rest
    (sym (ap (λ (world : World). world.turn) c.self.view_is))
    (sym (ap (λ (world : World). world.queue) c.self.view_is) ∙ c.in-Some.ensures.items)
    (c.in_ok-deliver-in-Some.ensures ∙ ap (λ (world : World). delivering (record world { queue = rest }) c.in-Some.broadcast) c.self.view_is)
