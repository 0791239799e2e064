use Rattle.bfs_nodes_progress.proofs.Executing.{committed_is_executed}
use Rattle.bfs_nodes_progress.proofs.laws.committed_is_executed.Goals as goal

pub returns : goal.returns
returns c = committed_is_executed c.what_is_below.ensures
