use Rattle.bfs_nodes_progress.proofs.Requests.{requests_are_executed}
use Rattle.bfs_nodes_progress.proofs.laws.requests_are_executed.Goals as goal

pub returns : goal.returns
returns c = requests_are_executed c.what_is_below.ensures
