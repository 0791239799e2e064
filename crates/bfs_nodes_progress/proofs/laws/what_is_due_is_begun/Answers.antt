use Rattle.bfs_nodes_progress.proofs.Begun.{what_is_due_is_begun}
use Rattle.bfs_nodes_progress.proofs.laws.what_is_due_is_begun.Goals as goal

pub returns : goal.returns
returns c = what_is_due_is_begun
