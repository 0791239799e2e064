use Rattle.bfs_liveness.proofs.Served.{what_waits_at_one_is_executed}
use Rattle.bfs_liveness.proofs.progress.what_waits_at_one_is_executed.Goals as goal

pub returns : goal.returns
returns c = what_waits_at_one_is_executed c.members_meet_in.ensures c.ways_are_runs.ensures c.members_come_up.ensures c.what_is_stable_was_executed.ensures
    c.full_windows_go_on.ensures c.what_waits_is_executed.ensures c.steps_are_turns.ensures c.nodes_agree.ensures
