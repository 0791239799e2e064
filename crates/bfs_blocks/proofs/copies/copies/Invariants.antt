use Rattle.std.proofs.Common.{◌≡◌, take}
use Rattle.bfs_blocks.specs.Blocks.{pieces_of}
use Rattle.bfs_blocks.proofs.copies.copies.Given as goal

abbrev pub invariant-loop-block : goal.invariant-loop-block
invariant-loop-block l = pieces_of l.copies.items ≡ take l.block-index (pieces_of l.blocks)
