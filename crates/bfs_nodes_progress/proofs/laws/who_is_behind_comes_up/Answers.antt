use Rattle.bfs_nodes_progress.proofs.CatchingUp.{who_is_behind_comes_up}
use Rattle.bfs_nodes_progress.proofs.laws.who_is_behind_comes_up.Goals as goal

pub returns : goal.returns
returns c = who_is_behind_comes_up c.what_is_below.ensures c.nodes_agree.ensures c.right_checkpoints_are_collected.ensures
