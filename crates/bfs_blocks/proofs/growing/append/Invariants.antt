use Rattle.std.proofs.Common.{◌≡◌, ◌≤◌, ◌++◌, length}
use Rattle.bfs_blocks.specs.Blocks.{AreFilled, bytes_of, pieces_of}
use Rattle.bfs_blocks.proofs.growing.append.Given as goal

abbrev pub invariant-loop-rest : goal.invariant-loop-rest
invariant-loop-rest l = record {
  filled : AreFilled (pieces_of l.blocks.items);
  more : length (bytes_of l.fn.blocks.items) ≤ length (bytes_of l.blocks.items);
  bytes : bytes_of l.blocks.items ++ l.rest ≡ bytes_of l.fn.blocks.items ++ l.fn.bytes;
}

abbrev pub decreases-loop-rest : goal.decreases-loop-rest
decreases-loop-rest l = length l.rest
