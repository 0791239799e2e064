use Rattle.bfs_overtaking.proofs.Beginning as lemmas
use Rattle.bfs_overtaking.proofs.laws.plans_are_groups.Goals as goal

pub returns : goal.returns
returns c = lemmas.plans_are_groups
