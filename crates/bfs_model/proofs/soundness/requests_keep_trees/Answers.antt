use Rattle.bfs_model.proofs.Footprints.Requests.{requests_keep_trees}
use Rattle.bfs_model.proofs.soundness.requests_keep_trees.Goals as goal

pub returns : goal.returns
returns c = requests_keep_trees
