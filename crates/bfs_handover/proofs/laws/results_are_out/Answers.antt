-- By the lemma of that name.
use Rattle.bfs_handover.proofs.Homecoming.{results_are_out}
use Rattle.bfs_handover.proofs.laws.results_are_out.Goals as goal

pub returns : goal.returns
returns c = results_are_out
