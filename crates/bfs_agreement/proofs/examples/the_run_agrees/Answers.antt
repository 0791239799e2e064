use Rattle.bfs_agreement.proofs.Running.{runs_agree}
use Rattle.bfs_agreement.proofs.examples.the_run_agrees.Goals as goal

pub returns : goal.returns
returns c = runs_agree c.calls_agree.ensures c.there_is_a_run.ensures
