use Rattle.bfs_checkpoints.proofs.Collected.{are_right}
use Rattle.bfs_checkpoints.proofs.laws.right_checkpoints_are_collected.Goals as goal

pub returns : goal.returns
returns c = are_right
