use Rattle.bfs_nodes_progress.proofs.Together.{enters_together}
use Rattle.bfs_nodes_progress.proofs.laws.enters_together.Goals as goal

pub returns : goal.returns
returns c = enters_together c.what_is_below.ensures
