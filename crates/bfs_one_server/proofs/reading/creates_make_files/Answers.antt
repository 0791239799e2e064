use Rattle.bfs_one_server.proofs.Making.{creates_make_files}
use Rattle.bfs_one_server.proofs.reading.creates_make_files.Goals as goal

pub returns : goal.returns
returns c = creates_make_files
