use Rattle.bfs_checkpoints.proofs.Again.{read_again}
use Rattle.bfs_checkpoints.proofs.laws.live_nodes_are_read_again.Goals as goal

pub returns : goal.returns
returns c = read_again
