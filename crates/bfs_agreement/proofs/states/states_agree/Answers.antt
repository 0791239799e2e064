use Rattle.bfs_agreement.proofs.Nodes.{states_agree}
use Rattle.bfs_agreement.proofs.states.states_agree.Goals as goal

pub returns : goal.returns
returns c = states_agree c.quorums_meet.ensures
