use Rattle.bfs_model.proofs.Laws.{word_written}
use Rattle.bfs_model.proofs.spelling.word_was_written.Goals as goal

pub returns : goal.returns
returns c = word_written
