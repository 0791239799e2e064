use Rattle.bfs_nodes_agree.proofs.Nodes.Agree.{turns_may_be_taken}
use Rattle.bfs_nodes_agree.proofs.node_calls.laws.turns_may_be_taken.Goals as goal

pub returns : goal.returns
returns c = turns_may_be_taken c.a_replica_stays_itself.ensures c.views_are_entered.ensures.kept c.message_was_written.ensures c.batches_with_one_text.ensures
