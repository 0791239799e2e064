use Rattle.bfs_order.proofs.KeptLogs.{certificate_always, certificate_kept}
use Rattle.bfs_order.proofs.laws.the_stable_checkpoint_has_its_certificate.Goals as goal

pub returns : goal.returns
returns c = record { kept = certificate_kept; always = certificate_always }
