use Rattle.bfs_liveness.proofs.Leaving.{members_meet}
use Rattle.bfs_liveness.proofs.meeting.members_meet.Goals as goal

pub returns : goal.returns
returns c = members_meet c.what_is_below.ensures c.what_is_resent_was_sent.ensures.fair
