use Rattle.bfs_liveness.proofs.Windows.{windows_are_bounded}
use Rattle.bfs_liveness.proofs.window.windows_are_bounded.Goals as goal

pub returns : goal.returns
returns c = windows_are_bounded c.what_is_below.ensures c.new_views_are_taken_whole.ensures.entered
