use Rattle.bfs_model.proofs.ResultsAgain.{results_again}
use Rattle.bfs_model.proofs.replies_read.results_are_read_back.Goals as goal

pub returns : goal.returns
returns c = results_again
