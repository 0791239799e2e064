use Rattle.bfs_journal.proofs.Fronts.{recovers_a_front}
use Rattle.bfs_journal.proofs.laws.recovers_a_front.Goals as goal

pub returns : goal.returns
returns g c = recovers_a_front _
