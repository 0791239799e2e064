use Rattle.bfs_liveness.proofs.Ways.{ways_are_runs}
use Rattle.bfs_liveness.proofs.meeting.ways_are_runs.Goals as goal

pub returns : goal.returns
returns c = ways_are_runs c.what_is_below.ensures c.what_is_resent_was_sent.ensures.fair
