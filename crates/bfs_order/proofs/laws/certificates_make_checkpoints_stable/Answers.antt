use Rattle.bfs_order.proofs.Vouching.{makes_stable}
use Rattle.bfs_order.proofs.laws.certificates_make_checkpoints_stable.Goals as goal

pub returns : goal.returns
returns c = makes_stable
