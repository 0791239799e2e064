use Rattle.std.proofs.Common.{length}
use Rattle.bfs_view_change.proofs.view_changes.+do_rise.Given as goal

abbrev pub decreases-do_rise : goal.decreases-do_rise
decreases-do_rise l = length l.certificates.now
