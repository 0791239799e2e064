use Rattle.bfs_liveness.proofs.Leading.{a_member_leads}
use Rattle.bfs_liveness.proofs.meeting.a_member_leads.Goals as goal

pub returns : goal.returns
returns c = a_member_leads
