use Rattle.std.proofs.Common.{length}
use Rattle.bfs_view_change.proofs.choice.+best_in.Given as goal

abbrev pub decreases-best_in : goal.decreases-best_in
decreases-best_in l = length l.certificates.now
