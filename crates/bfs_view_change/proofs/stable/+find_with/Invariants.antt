use Rattle.std.proofs.Common.{length}
use Rattle.bfs_view_change.proofs.stable.+find_with.Given as goal

abbrev pub decreases-find_with : goal.decreases-find_with
decreases-find_with l = length l.changes.now
