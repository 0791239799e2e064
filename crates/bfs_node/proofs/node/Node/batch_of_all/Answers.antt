use Rattle.std.proofs.Common.{arith, ap, length, take, length-take}
use Rattle.bfs_node.specs.Nodes.{Node}
use Rattle.bfs_node.proofs.Taking.{no_more}
use Rattle.bfs_node.proofs.node.Node.batch_of_all.Goals as goal

pub new-batch-requires : goal.new-batch-requires
new-batch-requires c =
    let asked = take c.loop-signed.signed-index c.args.messages.now in
    let same = ap (λ (node : Node). length node.pending) c.self.view_is in
    omega (arith, same, (no_more c.args.self.now.pending asked).1, ap length c.loop-signed.invariant, length-take c.loop-signed.signed-index c.args.messages.now, c.if-messages-len.false, c.len.ensures.value, c.len.ensures.within)
