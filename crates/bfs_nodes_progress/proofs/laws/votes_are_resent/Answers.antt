use Rattle.bfs_nodes_progress.proofs.Resending.{votes_are_resent}
use Rattle.bfs_nodes_progress.proofs.laws.votes_are_resent.Goals as goal

pub returns : goal.returns
returns c = votes_are_resent
