use Rattle.std.proofs.Common.{◌≡◌, ◌-◌, ◌≤◌, ◌++◌, length, take, drop}
use Rattle.bfs_blocks.proofs.files.FileBlocks.read_pieces.Given as goal

abbrev pub invariant-loop-left : goal.invariant-loop-left
invariant-loop-left l = record {
  more : length l.fn.out.items ≤ length l.out.items;
  within : l.left ≤ length l.self - l.at;
  bytes : l.out.items ++ take l.left (drop l.at l.self) ≡ l.fn.out.items ++ take l.fn.count (drop l.fn.offset l.self);
}

abbrev pub decreases-loop-left : goal.decreases-loop-left
decreases-loop-left l = l.left
