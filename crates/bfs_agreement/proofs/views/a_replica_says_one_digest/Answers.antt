use Rattle.bfs_agreement.proofs.Calls.{says_one_digest}
use Rattle.bfs_agreement.proofs.views.a_replica_says_one_digest.Goals as goal

pub returns : goal.returns
returns c = says_one_digest
