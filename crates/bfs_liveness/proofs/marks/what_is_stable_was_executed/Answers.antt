use Rattle.bfs_liveness.proofs.Stable.{what_is_stable_was_executed}
use Rattle.bfs_liveness.proofs.marks.what_is_stable_was_executed.Goals as goal

pub returns : goal.returns
returns c = what_is_stable_was_executed c.what_is_below.ensures c.the_stable_checkpoint_has_its_certificate.ensures.kept
