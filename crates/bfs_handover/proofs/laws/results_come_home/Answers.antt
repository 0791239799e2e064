-- By the lemma of that name.
use Rattle.bfs_handover.proofs.Homecoming.{results_come_home}
use Rattle.bfs_handover.proofs.laws.results_come_home.Goals as goal

pub returns : goal.returns
returns c = results_come_home
