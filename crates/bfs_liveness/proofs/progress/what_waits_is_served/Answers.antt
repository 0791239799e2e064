use Rattle.bfs_liveness.proofs.Composing.{what_waits_is_served}
use Rattle.bfs_liveness.proofs.progress.what_waits_is_served.Goals as goal

pub returns : goal.returns
returns c = what_waits_is_served c.what_waits_is_executed.ensures
