use Rattle.std.proofs.Common.{sym, ap, ◌∙◌}
use Rattle.sha2.specs.Sha256.{sha256}
use Rattle.bfs_blocks.specs.Blocks.{bytes_of}
use Rattle.bfs_blocks.specs.Bytes.{block_at}
use Rattle.bfs_blocks.proofs.files.FileBlocks.keep_block.Goals as goal

pub keep_at-requires-clause-digest : goal.keep_at-requires-clause-digest
keep_at-requires-clause-digest c = c.requires ∙ ap (λ bytes. sha256 (block_at bytes c.args.number)) (sym c.self.view_is) ∙ ap (λ blocks. sha256 (block_at (bytes_of blocks) c.args.number)) (sym c.deref_mut.ensures.value)
