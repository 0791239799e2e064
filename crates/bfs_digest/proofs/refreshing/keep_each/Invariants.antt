use Rattle.std.proofs.Common.{◌≡◌}
use Rattle.bfs_digest.proofs.refreshing.keep_each.Given as goal

abbrev pub invariant-loop-hashed : goal.invariant-loop-hashed
invariant-loop-hashed l = l.tree ≡ l.fn.tree
