use Rattle.bfs_progress.proofs.Following.{none_lags}
use Rattle.bfs_progress.proofs.laws.none_lags.Goals as goal

pub returns : goal.returns
returns c = none_lags
