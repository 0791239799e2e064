use Rattle.bfs_nodes_agree.proofs.Orders.Worlds.{deeds_are_moves}
use Rattle.bfs_nodes_agree.proofs.order_calls.laws.deeds_are_moves.Goals as goal

pub returns : goal.returns
returns c = deeds_are_moves
