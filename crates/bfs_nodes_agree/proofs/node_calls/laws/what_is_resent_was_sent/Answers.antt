use Rattle.bfs_nodes_agree.proofs.Nodes.Resending.{what_is_resent_is_fair, what_is_resent_was_sent}
use Rattle.bfs_nodes_agree.proofs.node_calls.laws.what_is_resent_was_sent.Goals as goal

pub returns : goal.returns
returns c =
    let views = c.views_are_entered.ensures.kept in
    let own = c.what_is_resent_is_its_own.ensures.own in
    record {
      said = what_is_resent_was_sent c.a_replica_stays_itself.ensures views c.message_was_written.ensures c.batches_with_one_text.ensures own;
      fair = what_is_resent_is_fair c.a_replica_stays_itself.ensures views c.message_was_written.ensures c.batches_with_one_text.ensures own;
    }
