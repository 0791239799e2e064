use Rattle.bfs_blocks.proofs.BlockLemmas.{left_of_block}
use Rattle.bfs_blocks.proofs.files.FileBlocks.piece.Goals as goal

pub returns : goal.returns
returns c = left_of_block c.args.offset c.min.result c.args.self.now c.block-block.result.now c.split_at.result.1.now c.block-block.ensures c.min.ensures c.split_at.ensures.back
