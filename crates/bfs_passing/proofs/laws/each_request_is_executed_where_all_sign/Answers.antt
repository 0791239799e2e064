use Rattle.bfs_passing.proofs.Heard.{each_request_is_executed}
use Rattle.bfs_passing.proofs.laws.each_request_is_executed_where_all_sign.Goals as goal

pub returns : goal.returns
returns c = each_request_is_executed c.signers_are_heard.ensures c.each_request_is_executed.ensures
