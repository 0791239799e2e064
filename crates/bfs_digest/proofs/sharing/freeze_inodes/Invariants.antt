use Rattle.std.proofs.Common.{map}
use Rattle.std.specs.Arc.{arc_value}
use Rattle.std.specs.FinMap.{entries}
use Rattle.sha2.specs.Hashers.{Holds256}
use Rattle.bfs_tree.specs.Tree.{at_home}
use Rattle.bfs_digest.specs.Frozen.{frozen_inodes}
use Rattle.bfs_digest.specs.Inside.Sharing.{all_frozen}
use Rattle.bfs_digest.proofs.Chunks.{AreShared}
use Rattle.bfs_digest.proofs.sharing.freeze_inodes.Given as goal

abbrev pub invariant-loop-id : goal.invariant-loop-id
invariant-loop-id l = AreShared Holds256 l.fn.hasher l.hasher (map arc_value l.inodes.items) (all_frozen l.chunk.items) (frozen_inodes l.id-iterator) (frozen_inodes (entries (at_home l.tree)))
