use Rattle.bfs_checkpoints.proofs.Again.{one_node}
use Rattle.bfs_checkpoints.proofs.laws.a_text_spells_one_node.Goals as goal

pub returns : goal.returns
returns c = one_node
