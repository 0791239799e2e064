use Rattle.bfs_liveness.proofs.StillWaiting.{what_waits_stays}
use Rattle.bfs_liveness.proofs.waiting.what_waits_stays.Goals as goal

pub returns : goal.returns
returns c = what_waits_stays
