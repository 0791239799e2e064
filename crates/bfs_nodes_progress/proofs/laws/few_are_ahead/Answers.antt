use Rattle.bfs_nodes_progress.proofs.Following.{few_are_ahead}
use Rattle.bfs_nodes_progress.proofs.laws.few_are_ahead.Goals as goal

pub returns : goal.returns
returns c = few_are_ahead c.what_is_below.ensures
