use Rattle.bfs_digest.proofs.Live.{one_text}
use Rattle.bfs_digest.proofs.laws.a_file_system_has_one_text.Goals as goal

pub returns : goal.returns
returns c = one_text
