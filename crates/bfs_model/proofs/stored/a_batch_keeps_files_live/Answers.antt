use Rattle.bfs_model.proofs.Live.{batches_keep_live}
use Rattle.bfs_model.proofs.Kept.{execute_keeps}
use Rattle.bfs_model.proofs.stored.a_batch_keeps_files_live.Goals as goal

pub returns : goal.returns
returns c = batches_keep_live execute_keeps
