-- The law stands among the lemmas.
use Rattle.bfs_model.proofs.WellFormed.Trees.{tree_kept}
use Rattle.bfs_model.proofs.procedures.trees_stay.Goals as goal

pub returns : goal.returns
returns c = tree_kept
