use Rattle.std.proofs.Common.{length}
use Rattle.bfs_view_change.proofs.new_views.+do_propose.Given as goal

abbrev pub decreases-do_propose : goal.decreases-do_propose
decreases-do_propose l = length l.proposals.now
