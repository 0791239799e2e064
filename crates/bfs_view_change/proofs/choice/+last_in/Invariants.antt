use Rattle.std.proofs.Common.{length}
use Rattle.bfs_view_change.proofs.choice.+last_in.Given as goal

abbrev pub decreases-last_in : goal.decreases-last_in
decreases-last_in l = length l.certificates.now
