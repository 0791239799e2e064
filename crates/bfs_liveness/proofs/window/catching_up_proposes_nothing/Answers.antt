use Rattle.bfs_liveness.proofs.Installing.{catching_up_proposes_nothing}
use Rattle.bfs_liveness.proofs.window.catching_up_proposes_nothing.Goals as goal

pub returns : goal.returns
returns c = catching_up_proposes_nothing
