use Rattle.bfs_nodes_agree.proofs.Nodes.Agree.{fair_is_authentic, what_is_sent_is_fair}
use Rattle.bfs_nodes_agree.proofs.node_calls.laws.what_was_sent_is_authentic.Goals as goal

pub returns : goal.returns
returns c = record { sent = what_is_sent_is_fair; run = fair_is_authentic c.a_replica_stays_itself.ensures c.views_are_entered.ensures.kept c.message_was_written.ensures c.batches_with_one_text.ensures }
