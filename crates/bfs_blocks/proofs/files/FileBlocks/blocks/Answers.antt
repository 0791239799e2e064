use Rattle.std.proofs.Common.{ap, ◌∙◌}
use Rattle.bfs_blocks.specs.Blocks.{pieces_of}
use Rattle.bfs_blocks.specs.Bytes.{blocks_in}
use Rattle.bfs_blocks.proofs.PieceLemmas.{blocks_are}
use Rattle.bfs_blocks.proofs.files.FileBlocks.blocks.Goals as goal

pub returns-clause-blocks : goal.returns-clause-blocks
returns-clause-blocks c =
    ap pieces_of (c.iter.ensures.rest ∙ c.deref.ensures.value) ∙ blocks_are (pieces_of c.self.inside.blocks.items) c.self.invariant.0 ∙ ap blocks_in c.self.view_is
