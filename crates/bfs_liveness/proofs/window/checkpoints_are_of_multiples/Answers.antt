use Rattle.bfs_liveness.proofs.Multiples.{checkpoints_are_of_multiples}
use Rattle.bfs_liveness.proofs.window.checkpoints_are_of_multiples.Goals as goal

pub returns : goal.returns
returns c = checkpoints_are_of_multiples c.what_is_below.ensures
