use Rattle.bfs_recovery.proofs.Journals.{the_node_comes_back}
use Rattle.bfs_recovery.proofs.laws.the_node_comes_back.Goals as goal

pub returns : goal.returns
returns c = the_node_comes_back c.fronts_are_read.ensures
