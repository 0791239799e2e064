use Rattle.std.proofs.Common.{refl, ap, ◌∙◌}
use Rattle.sha2.specs.Sha256.{sha256}
use Rattle.bfs_blocks.specs.Blocks.{bytes_in}
use Rattle.bfs_blocks.proofs.BlockLemmas.{block_read, one_kept}
use Rattle.bfs_blocks.proofs.keeping.keep_at.Goals as goal

pub keep-requires : goal.keep-requires
keep-requires c = c.requires.digest ∙ ap sha256 (block_read c.args.blocks.now c.args.number c.index-blocks-number.result c.requires.filled c.if-number-blocks.true c.index-blocks-number.is ∙ ap bytes_in c.index-blocks-number.is)

pub returns-then-number-blocks : goal.returns-then-number-blocks
returns-then-number-blocks c = one_kept c.args.blocks.now c.args.blocks.now c.args.number c.index-blocks-number.result c.keep.new.self c.if-number-blocks.true refl c.keep.ensures
