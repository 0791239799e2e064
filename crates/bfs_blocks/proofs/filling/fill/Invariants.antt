use Rattle.std.proofs.Common.{◌≡◌, ◌≤◌, ◌++◌, length, replicate}
use Rattle.bfs_blocks.specs.Blocks.{AreFilled, bytes_of, pieces_of}
use Rattle.bfs_blocks.proofs.filling.fill.Given as goal

abbrev pub invariant-loop-left : goal.invariant-loop-left
invariant-loop-left l = record {
  filled : AreFilled (pieces_of l.blocks.items);
  more : length (bytes_of l.fn.blocks.items) ≤ length (bytes_of l.blocks.items);
  bytes : bytes_of l.blocks.items ++ replicate l.left 0 ≡ bytes_of l.fn.blocks.items ++ replicate l.fn.count 0;
}

abbrev pub decreases-loop-left : goal.decreases-loop-left
decreases-loop-left l = l.left
