use Rattle.bfs_nodes_progress.proofs.Quiet.{quiet_is_committed}
use Rattle.bfs_nodes_progress.proofs.laws.quiet_is_committed.Goals as goal

pub returns : goal.returns
returns c = quiet_is_committed c.what_is_below.ensures
