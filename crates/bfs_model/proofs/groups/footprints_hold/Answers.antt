use Rattle.bfs_model.proofs.Footprints.OvertakingRequests.{footprints_hold}
use Rattle.bfs_model.proofs.groups.footprints_hold.Goals as goal

pub returns : goal.returns
returns c = footprints_hold
