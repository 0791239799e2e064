use Rattle.bfs_one_server.proofs.Using.{accepted_writes_are_read}
use Rattle.bfs_one_server.proofs.reading.accepted_writes_are_read.Goals as goal

pub returns : goal.returns
returns c = accepted_writes_are_read c.clients_see_one_server.ensures c.readers_see_writes.ensures
