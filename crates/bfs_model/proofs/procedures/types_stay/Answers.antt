use Rattle.bfs_model.proofs.Added.{types_kept}
use Rattle.bfs_model.proofs.procedures.types_stay.Goals as goal

pub returns : goal.returns
returns c = types_kept
