use Rattle.bfs_view_change.proofs.Made.{made_has}
use Rattle.bfs_view_change.proofs.laws.made_has_prepared.Goals as goal

pub returns : goal.returns
returns c = made_has
