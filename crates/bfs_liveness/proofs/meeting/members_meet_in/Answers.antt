use Rattle.bfs_liveness.proofs.Leaving.{members_meet_in}
use Rattle.bfs_liveness.proofs.meeting.members_meet_in.Goals as goal

pub returns : goal.returns
returns c = members_meet_in c.what_is_below.ensures c.what_is_resent_was_sent.ensures.fair
