use Rattle.bfs_model.proofs.Live.{new_is_live}
use Rattle.bfs_model.proofs.Kept.{new_is_well_formed}
use Rattle.bfs_model.proofs.stored.a_new_file_system_is_live.Goals as goal

pub returns : goal.returns
returns c = new_is_live new_is_well_formed
