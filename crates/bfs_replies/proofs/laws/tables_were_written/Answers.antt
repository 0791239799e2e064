use Rattle.bfs_replies.proofs.Exact.{tables_written}
use Rattle.bfs_replies.proofs.laws.tables_were_written.Goals as goal

pub returns : goal.returns
returns c = tables_written
