use Rattle.bfs_passing.proofs.Heard.{each_state_is_served}
use Rattle.bfs_passing.proofs.laws.each_state_is_served_where_all_sign.Goals as goal

pub returns : goal.returns
returns c = each_state_is_served c.signers_are_heard.ensures c.each_state_is_served.ensures
