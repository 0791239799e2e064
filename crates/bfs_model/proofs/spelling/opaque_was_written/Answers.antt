use Rattle.bfs_model.proofs.Laws.{opaque_written}
use Rattle.bfs_model.proofs.spelling.opaque_was_written.Goals as goal

pub returns : goal.returns
returns c = opaque_written
