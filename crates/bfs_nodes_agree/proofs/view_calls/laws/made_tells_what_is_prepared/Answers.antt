use Rattle.bfs_nodes_agree.proofs.Views.Made.{made_tells}
use Rattle.bfs_nodes_agree.proofs.view_calls.laws.made_tells_what_is_prepared.Goals as goal

pub returns : goal.returns
returns c = made_tells c.made_has_prepared.ensures
