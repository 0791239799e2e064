use Rattle.bfs_liveness.proofs.ToldSnapshots.{told_snapshots_stay}
use Rattle.bfs_liveness.proofs.catching.told_snapshots_stay.Goals as goal

pub returns : goal.returns
returns c = told_snapshots_stay c.what_is_below.ensures
