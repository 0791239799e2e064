use Rattle.bfs_liveness.proofs.Ordering.{what_waits_is_executed}
use Rattle.bfs_liveness.proofs.executing.what_waits_is_executed.Goals as goal

pub returns : goal.returns
returns c = what_waits_is_executed c.what_is_below.ensures c.what_is_resent_was_sent.ensures.fair c.none_is_left_out.ensures c.none_is_beyond.ensures c.steps_are_turns.ensures
