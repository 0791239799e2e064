use Rattle.bfs_auth.proofs.Passing.{at_clients, at_replicas}
use Rattle.bfs_auth.proofs.laws.what_is_signed_passes.Goals as goal

pub returns : goal.returns
returns c = record { replicas = at_replicas; client = at_clients }
