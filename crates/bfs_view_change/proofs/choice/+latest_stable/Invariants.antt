use Rattle.std.proofs.Common.{length}
use Rattle.bfs_view_change.proofs.choice.+latest_stable.Given as goal

abbrev pub decreases-latest_stable : goal.decreases-latest_stable
decreases-latest_stable l = length l.changes.now
