use Rattle.bfs_liveness.proofs.Multiples.{what_is_stable_is_a_multiple}
use Rattle.bfs_liveness.proofs.window.what_is_stable_is_a_multiple.Goals as goal

pub returns : goal.returns
returns c = what_is_stable_is_a_multiple c.what_is_below.ensures c.the_stable_checkpoint_has_its_certificate.ensures.kept
