use Rattle.std.proofs.Common.{length}
use Rattle.bfs_view_change.proofs.choice.+best_from.Given as goal

abbrev pub decreases-best_from : goal.decreases-best_from
decreases-best_from l = length l.changes.now
