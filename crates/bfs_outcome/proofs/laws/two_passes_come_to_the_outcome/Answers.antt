use Rattle.bfs_outcome.proofs.Passing.{come_to_the_outcome}
use Rattle.bfs_outcome.proofs.laws.two_passes_come_to_the_outcome.Goals as goal

pub returns : goal.returns
returns c = come_to_the_outcome
