use Rattle.bfs_model.proofs.Pages.{cookies_rise}
use Rattle.bfs_model.proofs.paging.cookies_rise.Goals as goal

pub returns : goal.returns
returns c = cookies_rise
