use Rattle.bfs_agreement.proofs.Calls.{batches_agree}
use Rattle.bfs_agreement.proofs.agreement.batches_agree.Goals as goal

pub returns : goal.returns
returns c = batches_agree c.calls_agree.ensures
