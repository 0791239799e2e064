use Rattle.bfs_liveness.proofs.ComingUp.{members_come_up}
use Rattle.bfs_liveness.proofs.catching.members_come_up.Goals as goal

pub returns : goal.returns
returns c =
    members_come_up c.what_is_below.ensures c.what_is_resent_was_sent.ensures.fair c.new_views_are_taken_whole.ensures.entered c.quorums_meet.ensures
    c.certificates_make_checkpoints_stable.ensures
