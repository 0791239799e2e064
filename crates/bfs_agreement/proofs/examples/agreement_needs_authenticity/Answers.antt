use Rattle.bfs_agreement.proofs.Splitting.{needs_authenticity}
use Rattle.bfs_agreement.proofs.examples.agreement_needs_authenticity.Goals as goal

pub returns : goal.returns
returns c = needs_authenticity
