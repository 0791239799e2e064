use Rattle.bfs_liveness.proofs.Behind.{views_begin_behind}
use Rattle.bfs_liveness.proofs.catching.views_begin_behind.Goals as goal

pub returns : goal.returns
returns c = views_begin_behind c.what_is_below.ensures c.new_views_are_taken_whole.ensures.entered
