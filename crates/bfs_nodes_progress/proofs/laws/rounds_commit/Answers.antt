use Rattle.bfs_nodes_progress.proofs.Rounds.{rounds_commit}
use Rattle.bfs_nodes_progress.proofs.laws.rounds_commit.Goals as goal

pub returns : goal.returns
returns c = rounds_commit c.what_is_below.ensures
