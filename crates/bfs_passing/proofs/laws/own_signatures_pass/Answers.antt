use Rattle.bfs_passing.proofs.OwnSigns.{own_signatures_pass}
use Rattle.bfs_passing.proofs.laws.own_signatures_pass.Goals as goal

pub returns : goal.returns
returns c = own_signatures_pass c.signed_in_time_passes.ensures
