-- One worker is started before the others.
use Rattle.std.proofs.Common.{◌+◌, ◌*◌}
use Rattle.bfs_workers.proofs.queue.+workers.Given as goal

abbrev pub decreases-run_workers : goal.decreases-run_workers
decreases-run_workers g l = 2 * l.count + 1

abbrev pub decreases-join+arg3 : goal.decreases-join+arg3
decreases-join+arg3 g l = 2 * l.count
