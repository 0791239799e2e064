use Rattle.bfs_nodes_progress.proofs.Together.{changes_are_given}
use Rattle.bfs_nodes_progress.proofs.laws.changes_are_given.Goals as goal

pub returns : goal.returns
returns c = changes_are_given c.what_is_below.ensures
