use Rattle.bfs_nodes_progress.proofs.Following.{all_follow}
use Rattle.bfs_nodes_progress.proofs.laws.all_follow.Goals as goal

pub returns : goal.returns
returns c = all_follow c.what_is_below.ensures
