use Rattle.std.proofs.Common.{◌≡◌, ◌++◌, map, take}
use Rattle.std.specs.Arc.{arc_value}
use Rattle.bfs_digest.specs.Frozen.{texts_of}
use Rattle.bfs_digest.proofs.freezing.put_inodes.Given as goal

abbrev pub invariant-loop-inode : goal.invariant-loop-inode
invariant-loop-inode l = l.out.items ≡ l.fn.out.items ++ texts_of (map arc_value (take l.inode-index l.inodes))
