use Rattle.bfs_order.proofs.Resent.{all_of_it_is_resent, what_is_resent_is_own}
use Rattle.bfs_order.proofs.laws.what_is_resent_is_its_own.Goals as goal

pub returns : goal.returns
returns c = record { own = what_is_resent_is_own; all = all_of_it_is_resent }
