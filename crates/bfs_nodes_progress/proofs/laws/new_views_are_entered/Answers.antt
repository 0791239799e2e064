use Rattle.bfs_nodes_progress.proofs.Entering.{new_views_are_entered}
use Rattle.bfs_nodes_progress.proofs.laws.new_views_are_entered.Goals as goal

pub returns : goal.returns
returns c = new_views_are_entered c.what_is_below.ensures
