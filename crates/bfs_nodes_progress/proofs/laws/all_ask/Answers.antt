use Rattle.bfs_nodes_progress.proofs.Following.{all_ask}
use Rattle.bfs_nodes_progress.proofs.laws.all_ask.Goals as goal

pub returns : goal.returns
returns c = all_ask c.what_is_below.ensures
