use Rattle.bfs_model.proofs.Live.{answers_again}
use Rattle.bfs_model.proofs.Kept.{a_call_keeps}
use Rattle.bfs_model.proofs.stored.answers_are_read_back.Goals as goal

pub returns : goal.returns
returns c = answers_again a_call_keeps
