use Rattle.bfs_one_server.proofs.Using.{requests_take_effect_once}
use Rattle.bfs_one_server.proofs.reading.requests_take_effect_once.Goals as goal

pub returns : goal.returns
returns c = requests_take_effect_once c.clients_see_one_server.ensures
