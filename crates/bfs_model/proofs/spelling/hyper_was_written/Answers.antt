use Rattle.bfs_model.proofs.Laws.{hyper_written}
use Rattle.bfs_model.proofs.spelling.hyper_was_written.Goals as goal

pub returns : goal.returns
returns c = hyper_written
