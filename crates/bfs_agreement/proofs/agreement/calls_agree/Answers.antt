use Rattle.bfs_agreement.proofs.Calls.{calls_agree}
use Rattle.bfs_agreement.proofs.agreement.calls_agree.Goals as goal

pub returns : goal.returns
returns c = calls_agree c.quorums_meet.ensures
