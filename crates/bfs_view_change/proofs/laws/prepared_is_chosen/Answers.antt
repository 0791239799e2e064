use Rattle.bfs_view_change.proofs.Prepared.{chosen_once, others_null, prepared_chosen, stable_passed}
use Rattle.bfs_view_change.proofs.laws.prepared_is_chosen.Goals as goal

pub returns : goal.returns
returns c = record { stable = stable_passed; numbers = chosen_once; prepared = prepared_chosen; others = others_null }
