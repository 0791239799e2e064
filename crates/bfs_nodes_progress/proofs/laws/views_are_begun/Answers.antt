use Rattle.bfs_nodes_progress.proofs.Begun.{views_are_begun}
use Rattle.bfs_nodes_progress.proofs.laws.views_are_begun.Goals as goal

pub returns : goal.returns
returns c = views_are_begun c.what_is_below.ensures
