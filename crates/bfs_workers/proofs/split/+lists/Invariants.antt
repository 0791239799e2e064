-- One list is taken out before the others are run.
use Rattle.std.proofs.Common.{◌+◌, ◌*◌, length}
use Rattle.bfs_workers.proofs.split.+lists.Given as goal

abbrev pub decreases-run_lists : goal.decreases-run_lists
decreases-run_lists g l = 3 * length l.lists.items

abbrev pub decreases-run_both : goal.decreases-run_both
decreases-run_both g l = 3 * length l.others.items + 2

abbrev pub decreases-run_both-join+arg3 : goal.decreases-run_both-join+arg3
decreases-run_both-join+arg3 g l = 3 * length l.others.items + 1
