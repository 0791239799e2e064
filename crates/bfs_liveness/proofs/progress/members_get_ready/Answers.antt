use Rattle.bfs_liveness.proofs.Composing.{members_get_ready}
use Rattle.bfs_liveness.proofs.progress.members_get_ready.Goals as goal

pub returns : goal.returns
returns c = members_get_ready c.members_meet.ensures c.ways_are_runs.ensures c.members_come_up.ensures c.what_is_stable_was_executed.ensures
