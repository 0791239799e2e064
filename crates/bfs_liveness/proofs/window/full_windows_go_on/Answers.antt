use Rattle.bfs_liveness.proofs.GoingOn.{full_windows_go_on}
use Rattle.bfs_liveness.proofs.window.full_windows_go_on.Goals as goal

pub returns : goal.returns
returns c =
    full_windows_go_on c.full_windows_are_emptied.ensures c.members_come_up.ensures c.ways_are_runs.ensures c.windows_are_bounded.ensures
    c.what_is_stable_is_a_multiple.ensures c.what_waits_stays.ensures
