use Rattle.bfs_view_change.proofs.OfTheSet.{choice_of_set, refusal_of_set}
use Rattle.bfs_view_change.proofs.laws.choice_is_of_the_set.Goals as goal

pub returns : goal.returns
returns c = record { choice = choice_of_set c.batches_with_one_text.ensures; refusal = refusal_of_set }
