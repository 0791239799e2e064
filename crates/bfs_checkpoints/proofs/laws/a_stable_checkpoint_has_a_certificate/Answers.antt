use Rattle.bfs_checkpoints.proofs.Certifying.{certificate_of}
use Rattle.bfs_checkpoints.proofs.laws.a_stable_checkpoint_has_a_certificate.Goals as goal

pub returns : goal.returns
returns c = certificate_of
