use Rattle.std.proofs.Common.{◌≡◌, ◌≤◌, length}
use Rattle.bfs_trace.specs.Callers.{gids_spelled, most_gids}
use Rattle.bfs_trace.proofs.Gids.{gids_after}
use Rattle.bfs_trace.proofs.callers.parse_gids.Given as goal

-- the groups so far, with those that the words which are left spell, are all of them
abbrev pub invariant-loop-word : goal.invariant-loop-word
invariant-loop-word l = (gids_after l.gids l.words ≡ gids_spelled l.fn.words) × (length l.gids ≤ most_gids)

abbrev pub decreases-loop-word : goal.decreases-loop-word
decreases-loop-word l = length l.words
