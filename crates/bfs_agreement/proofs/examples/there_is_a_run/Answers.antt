use Rattle.bfs_agreement.proofs.Running.{is_a_run}
use Rattle.bfs_agreement.proofs.examples.there_is_a_run.Goals as goal

pub returns : goal.returns
returns c = is_a_run
