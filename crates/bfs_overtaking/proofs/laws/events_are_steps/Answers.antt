use Rattle.bfs_overtaking.proofs.Stepping as lemmas
use Rattle.bfs_overtaking.proofs.laws.events_are_steps.Goals as goal

pub returns : goal.returns
returns c = lemmas.events_are_steps
