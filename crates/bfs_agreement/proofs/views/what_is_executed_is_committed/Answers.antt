use Rattle.bfs_agreement.proofs.Calls.{executes_committed}
use Rattle.bfs_agreement.proofs.views.what_is_executed_is_committed.Goals as goal

pub returns : goal.returns
returns c = executes_committed
