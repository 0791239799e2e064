use Rattle.bfs_nodes_progress.proofs.Quiet.{answers_are_said}
use Rattle.bfs_nodes_progress.proofs.laws.answers_are_said.Goals as goal

pub returns : goal.returns
returns c = answers_are_said c.what_is_below.ensures
