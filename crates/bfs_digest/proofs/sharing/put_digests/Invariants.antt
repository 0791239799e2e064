use Rattle.std.proofs.Common.{◌≡◌, ◌++◌, take}
use Rattle.bfs_digest.specs.Frozen.{digests_of}
use Rattle.bfs_digest.specs.Inside.Sharing.{all_frozen}
use Rattle.bfs_digest.proofs.sharing.put_digests.Given as goal

abbrev pub invariant-loop-shared : goal.invariant-loop-shared
invariant-loop-shared l = l.out.items ≡ l.fn.out.items ++ digests_of (all_frozen (take l.shared-index l.chunk))
