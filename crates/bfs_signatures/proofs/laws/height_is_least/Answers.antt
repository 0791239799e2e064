use Rattle.bfs_signatures.proofs.Signed.{height_is_least}
use Rattle.bfs_signatures.proofs.laws.height_is_least.Goals as goal

pub returns : goal.returns
returns c = height_is_least
