use Rattle.bfs_view_change.proofs.Behind.{latest_is, valid_show}
use Rattle.bfs_view_change.proofs.laws.views_begin_behind_what_is_stable.Goals as goal

pub returns : goal.returns
returns c = record { number = latest_is; shown = valid_show }
