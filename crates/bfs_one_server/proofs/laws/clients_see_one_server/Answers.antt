use Rattle.bfs_one_server.proofs.Seeing.{clients_see_one_server}
use Rattle.bfs_one_server.proofs.laws.clients_see_one_server.Goals as goal

pub returns : goal.returns
returns c = clients_see_one_server c.nodes_agree.ensures c.nodes_answer.ensures
