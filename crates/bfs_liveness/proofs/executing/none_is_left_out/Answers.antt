use Rattle.bfs_liveness.proofs.LeftOut.{none_is_left_out}
use Rattle.bfs_liveness.proofs.executing.none_is_left_out.Goals as goal

pub returns : goal.returns
returns c = none_is_left_out c.what_is_below.ensures c.views_begin_behind_what_is_stable.ensures.number c.prepared_is_chosen.ensures.numbers c.new_views_are_taken_whole.ensures.entered
