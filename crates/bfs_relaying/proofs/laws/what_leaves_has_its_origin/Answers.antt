use Rattle.bfs_relaying.proofs.Leaving.{leaves_with_origin}
use Rattle.bfs_relaying.proofs.laws.what_leaves_has_its_origin.Goals as goal

pub returns : goal.returns
returns c = leaves_with_origin c.what_is_told_has_its_origin.ensures
