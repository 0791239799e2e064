use Rattle.bfs_agreement.proofs.Splitting.{needs_distinct_states}
use Rattle.bfs_agreement.proofs.examples.agreement_needs_distinct_states.Goals as goal

pub returns : goal.returns
returns c = needs_distinct_states
