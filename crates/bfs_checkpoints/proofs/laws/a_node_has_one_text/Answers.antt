use Rattle.bfs_checkpoints.proofs.Again.{one_text}
use Rattle.bfs_checkpoints.proofs.laws.a_node_has_one_text.Goals as goal

pub returns : goal.returns
returns c = one_text
