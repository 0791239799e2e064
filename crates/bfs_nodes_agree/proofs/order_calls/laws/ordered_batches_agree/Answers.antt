use Rattle.bfs_nodes_agree.proofs.Orders.Worlds.{batches_agree}
use Rattle.bfs_nodes_agree.proofs.order_calls.laws.ordered_batches_agree.Goals as goal

pub returns : goal.returns
returns c = batches_agree c.orders_agree.ensures
