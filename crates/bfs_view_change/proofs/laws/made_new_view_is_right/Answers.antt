use Rattle.bfs_view_change.proofs.Right.{right}
use Rattle.bfs_view_change.proofs.laws.made_new_view_is_right.Goals as goal

pub returns : goal.returns
returns c = right c.what_is_signed_passes.ensures.replicas
