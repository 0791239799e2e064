use Rattle.bfs_agreement.proofs.Splitting.{needs_distinct_digests}
use Rattle.bfs_agreement.proofs.examples.agreement_needs_distinct_digests.Goals as goal

pub returns : goal.returns
returns c = needs_distinct_digests c.there_is_a_run.ensures
