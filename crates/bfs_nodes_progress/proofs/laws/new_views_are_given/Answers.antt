use Rattle.bfs_nodes_progress.proofs.Together.{new_views_are_given}
use Rattle.bfs_nodes_progress.proofs.laws.new_views_are_given.Goals as goal

pub returns : goal.returns
returns c = new_views_are_given c.what_is_below.ensures
