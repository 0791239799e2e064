use Rattle.bfs_overtaking.proofs.Accepting as lemmas
use Rattle.bfs_overtaking.proofs.laws.steps_are_accepted.Goals as goal

pub returns : goal.returns
returns c = lemmas.steps_are_accepted
