use Rattle.bfs_nodes_agree.proofs.Nodes.Answering.{nodes_answer}
use Rattle.bfs_nodes_agree.proofs.node_calls.laws.nodes_answer.Goals as goal

pub returns : goal.returns
returns c = nodes_answer c.a_replica_stays_itself.ensures c.views_are_entered.ensures.kept c.message_was_written.ensures c.batches_with_one_text.ensures
