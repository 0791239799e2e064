use Rattle.bfs_nodes_progress.proofs.Following.{what_is_heard_was_asked}
use Rattle.bfs_nodes_progress.proofs.laws.what_is_heard_was_asked.Goals as goal

pub returns : goal.returns
returns c = what_is_heard_was_asked c.what_is_below.ensures
