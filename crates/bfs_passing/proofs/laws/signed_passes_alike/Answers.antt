use Rattle.bfs_passing.proofs.Alike.{signed_passes_alike}
use Rattle.bfs_passing.proofs.laws.signed_passes_alike.Goals as goal

pub returns : goal.returns
returns c = signed_passes_alike
