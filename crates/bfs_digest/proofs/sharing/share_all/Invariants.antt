use Rattle.std.proofs.Common.{◌≡◌, ◌++◌, map, take}
use Rattle.std.specs.Arc.{arc_value}
use Rattle.bfs_digest.specs.Inside.Sharing.{all_frozen}
use Rattle.bfs_digest.proofs.sharing.share_all.Given as goal

abbrev pub invariant-loop-shared : goal.invariant-loop-shared
invariant-loop-shared l = map arc_value l.out.items ≡ map arc_value l.fn.out.items ++ all_frozen (take l.shared-index l.chunk)
