use Rattle.bfs_nodes_progress.proofs.Staying.{up_stays_up}
use Rattle.bfs_nodes_progress.proofs.laws.up_stays_up.Goals as goal

pub returns : goal.returns
returns c = up_stays_up c.what_is_below.ensures
