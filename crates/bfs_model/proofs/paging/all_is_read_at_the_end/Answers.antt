use Rattle.bfs_model.proofs.Pages.{all_read_at_end}
use Rattle.bfs_model.proofs.paging.all_is_read_at_the_end.Goals as goal

pub returns : goal.returns
returns c = all_read_at_end
