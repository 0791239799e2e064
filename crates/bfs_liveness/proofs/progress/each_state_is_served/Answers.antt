use Rattle.bfs_liveness.proofs.Composing.{each_state_is_served}
use Rattle.bfs_liveness.proofs.progress.each_state_is_served.Goals as goal

pub returns : goal.returns
returns c = each_state_is_served c.members_get_ready.ensures c.full_windows_go_on.ensures c.what_waits_is_executed.ensures
