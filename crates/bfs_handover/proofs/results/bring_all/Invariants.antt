use Rattle.std.proofs.Common.{◌≡◌, ◌+◌, ◌≤◌, ◌++◌, map, length, vec_len, vec_capacity}
use Rattle.bfs_handover.specs.Merging.{AreAllLent, all_home, reply_in}
use Rattle.bfs_handover.proofs.results.bring_all.Given as goal

-- what is left to bring makes of the tree what all of it makes of the tree before, and of the replies all replies
abbrev pub invariant-loop-done : goal.invariant-loop-done
invariant-loop-done l =
    AreAllLent l.tree l.done-iterator.rest.items
    × (all_home l.done-iterator.rest.items l.tree ≡ all_home l.fn.dones.items l.fn.tree)
    × (l.replies.items ++ map reply_in l.done-iterator.rest.items ≡ map reply_in l.fn.dones.items)
    × (vec_len l.replies + length l.done-iterator.rest.items ≤ vec_capacity l.replies)
