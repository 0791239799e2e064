use Rattle.bfs_nodes_agree.proofs.Orders.Worlds.{orders_agree}
use Rattle.bfs_nodes_agree.proofs.order_calls.laws.orders_agree.Goals as goal

pub returns : goal.returns
returns c = orders_agree c.moves_agree.ensures c.deeds_are_moves.ensures c.a_replica_stays_itself.ensures
