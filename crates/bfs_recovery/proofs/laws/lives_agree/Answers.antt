use Rattle.bfs_recovery.proofs.Lives.{lives_agree}
use Rattle.bfs_recovery.proofs.laws.lives_agree.Goals as goal

pub returns : goal.returns
returns c = lives_agree c.processes_agree.ensures
