use Rattle.bfs_one_server.proofs.Readers.{readers_see_writes}
use Rattle.bfs_one_server.proofs.reading.readers_see_writes.Goals as goal

pub returns : goal.returns
returns c = readers_see_writes
