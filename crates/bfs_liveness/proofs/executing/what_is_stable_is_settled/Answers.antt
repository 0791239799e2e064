use Rattle.bfs_liveness.proofs.Settled.{what_is_stable_is_settled}
use Rattle.bfs_liveness.proofs.executing.what_is_stable_is_settled.Goals as goal

pub returns : goal.returns
returns c = what_is_stable_is_settled c.a_replica_stays_itself.ensures
