use Rattle.std.proofs.Common.{length}
use Rattle.bfs_view_change.proofs.choice.+last_number.Given as goal

abbrev pub decreases-last_number : goal.decreases-last_number
decreases-last_number l = length l.changes.now
