-- The law stands among the lemmas.
use Rattle.bfs_model.proofs.Kept.{execute_keeps}
use Rattle.bfs_model.proofs.keeping.a_batch_keeps_files_well_formed.Goals as goal

pub returns : goal.returns
returns c = execute_keeps
