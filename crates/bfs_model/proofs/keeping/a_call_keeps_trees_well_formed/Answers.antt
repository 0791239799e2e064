-- The law stands among the lemmas.
use Rattle.bfs_model.proofs.Kept.{call_keeps_tree}
use Rattle.bfs_model.proofs.keeping.a_call_keeps_trees_well_formed.Goals as goal

pub returns : goal.returns
returns c = call_keeps_tree
