use Rattle.bfs_nodes_progress.proofs.CatchingUp.{all_come_up}
use Rattle.bfs_nodes_progress.proofs.laws.all_come_up.Goals as goal

pub returns : goal.returns
returns c = all_come_up c.what_is_below.ensures
