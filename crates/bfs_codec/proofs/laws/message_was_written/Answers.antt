use Rattle.bfs_codec.proofs.Whole.{message_written}
use Rattle.bfs_codec.proofs.laws.message_was_written.Goals as goal

pub returns : goal.returns
returns c = message_written
