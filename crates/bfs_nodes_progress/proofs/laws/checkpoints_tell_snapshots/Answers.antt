use Rattle.bfs_nodes_progress.proofs.CatchingUp.{checkpoints_tell_snapshots, snapshots_are_of_states}
use Rattle.bfs_nodes_progress.proofs.laws.checkpoints_tell_snapshots.Goals as goal

pub returns-clause-states : goal.returns-clause-states
returns-clause-states c = snapshots_are_of_states c.what_is_below.ensures

pub returns-clause-digests : goal.returns-clause-digests
returns-clause-digests c = checkpoints_tell_snapshots c.what_is_below.ensures c.nodes_agree.ensures
