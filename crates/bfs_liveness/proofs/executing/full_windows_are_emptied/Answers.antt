use Rattle.bfs_liveness.proofs.Emptying.{full_windows_are_emptied}
use Rattle.bfs_liveness.proofs.executing.full_windows_are_emptied.Goals as goal

pub returns : goal.returns
returns c = full_windows_are_emptied c.what_is_below.ensures c.what_is_resent_was_sent.ensures.fair c.none_is_left_out.ensures c.none_is_beyond.ensures c.what_is_stable_is_settled.ensures
    c.steps_are_turns.ensures c.nodes_agree.ensures
