use Rattle.bfs_model.proofs.Pages.{end_told_at_end}
use Rattle.bfs_model.proofs.paging.end_is_told_at_the_end.Goals as goal

pub returns : goal.returns
returns c = end_told_at_end
