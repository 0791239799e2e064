use Rattle.bfs_auth.proofs.Passing.{at_all_or_at_none}
use Rattle.bfs_auth.proofs.laws.signed_passes_at_all_or_at_none.Goals as goal

pub returns : goal.returns
returns c = at_all_or_at_none
