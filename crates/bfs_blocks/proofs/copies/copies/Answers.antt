use Rattle.bfs_blocks.proofs.BlockLemmas.{copied}
use Rattle.bfs_blocks.proofs.copies.copies.Goals as goal

pub loop-block-preserved : goal.loop-block-preserved
loop-block-preserved c =
    copied c.args.blocks.now c.loop-block.copies.items c.push.new.self.items c.loop-block.block-index c.block-item.result c.in_ok-copy.field-0 c.loop-block-test.true c.block-item.is c.loop-block.invariant c.in_ok-push.ensures.items c.in_ok-copy.ensures
