use Rattle.bfs_model.proofs.Pages.{enough_are_all}
use Rattle.bfs_model.proofs.paging.enough_pages_are_all.Goals as goal

pub returns : goal.returns
returns c = enough_are_all
