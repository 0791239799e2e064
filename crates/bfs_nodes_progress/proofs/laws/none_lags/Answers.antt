use Rattle.bfs_nodes_progress.proofs.Following.{none_lags}
use Rattle.bfs_nodes_progress.proofs.laws.none_lags.Goals as goal

pub returns : goal.returns
returns c = none_lags c.what_is_below.ensures
