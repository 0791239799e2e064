use Rattle.bfs_order.proofs.Saying.{keeps_what_it_said, says_one_digest, speaks_for_itself}
use Rattle.bfs_order.proofs.laws.what_is_sent_says_one_digest.Goals as goal

pub returns : goal.returns
returns c = record { own = speaks_for_itself; one = says_one_digest; kept = keeps_what_it_said }
