use Rattle.bfs_agreement.proofs.Worlds.{quorums_are_carried}
use Rattle.bfs_agreement.proofs.agreement.quorums_are_carried.Goals as goal

pub returns : goal.returns
returns c = quorums_are_carried c.quorums_meet.ensures
