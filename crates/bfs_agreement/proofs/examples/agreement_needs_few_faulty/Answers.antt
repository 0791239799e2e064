use Rattle.bfs_agreement.proofs.Splitting.{needs_few_faulty}
use Rattle.bfs_agreement.proofs.examples.agreement_needs_few_faulty.Goals as goal

pub returns : goal.returns
returns c = needs_few_faulty
