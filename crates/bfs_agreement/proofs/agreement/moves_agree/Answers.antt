use Rattle.bfs_agreement.proofs.Worlds.{moves_agree}
use Rattle.bfs_agreement.proofs.agreement.moves_agree.Goals as goal

pub returns : goal.returns
returns c = moves_agree c.quorums_meet.ensures
