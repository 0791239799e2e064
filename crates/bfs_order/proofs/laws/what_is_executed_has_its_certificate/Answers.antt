use Rattle.bfs_order.proofs.Executed.{next_has_its_certificate, only_the_next_is_executed}
use Rattle.bfs_order.proofs.laws.what_is_executed_has_its_certificate.Goals as goal

pub returns : goal.returns
returns c = record { next = next_has_its_certificate; executed = only_the_next_is_executed }
