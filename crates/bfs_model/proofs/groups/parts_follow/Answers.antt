use Rattle.bfs_model.proofs.Footprints.Parts.{parts_follow}
use Rattle.bfs_model.proofs.groups.parts_follow.Goals as goal

pub returns : goal.returns
returns c = parts_follow
