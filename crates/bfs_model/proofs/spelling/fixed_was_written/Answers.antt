use Rattle.bfs_model.proofs.Laws.{fixed_written}
use Rattle.bfs_model.proofs.spelling.fixed_was_written.Goals as goal

pub returns : goal.returns
returns c = fixed_written
