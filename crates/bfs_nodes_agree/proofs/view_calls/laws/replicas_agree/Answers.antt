use Rattle.bfs_nodes_agree.proofs.Views.Worlds.{replicas_agree}
use Rattle.bfs_nodes_agree.proofs.view_calls.laws.replicas_agree.Goals as goal

pub returns : goal.returns
returns c = replicas_agree c.numbers_lie_in_the_window.ensures.kept c.orders_agree.ensures c.made_tells_what_is_prepared.ensures c.right_new_views_are_valid.ensures
