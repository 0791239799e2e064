use Rattle.bfs_auth.proofs.Passing.{only_the_senders}
use Rattle.bfs_auth.proofs.laws.only_the_senders_hash_passes.Goals as goal

pub returns : goal.returns
returns c = only_the_senders
