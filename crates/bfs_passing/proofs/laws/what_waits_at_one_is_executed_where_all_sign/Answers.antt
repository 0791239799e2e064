use Rattle.bfs_passing.proofs.Heard.{what_waits_at_one_is_executed}
use Rattle.bfs_passing.proofs.laws.what_waits_at_one_is_executed_where_all_sign.Goals as goal

pub returns : goal.returns
returns c = what_waits_at_one_is_executed c.signers_are_heard.ensures c.what_waits_at_one_is_executed.ensures
