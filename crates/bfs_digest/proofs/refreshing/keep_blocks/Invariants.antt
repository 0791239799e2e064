use Rattle.std.proofs.Common.{◌≡◌}
use Rattle.bfs_digest.proofs.refreshing.keep_blocks.Given as goal

abbrev pub invariant-loop-hashed : goal.invariant-loop-hashed
invariant-loop-hashed g l = (g.S.Store.inodes l.store ≡ g.S.Store.inodes l.fn.store) × (g.S.Store.reach l.store ≡ g.S.Store.reach l.fn.store)
