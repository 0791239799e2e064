use Rattle.bfs_liveness.proofs.Served.{each_request_is_executed}
use Rattle.bfs_liveness.proofs.progress.each_request_is_executed.Goals as goal

pub returns : goal.returns
returns c = each_request_is_executed c.each_state_is_served.ensures c.steps_are_turns.ensures c.nodes_agree.ensures
