use Rattle.bfs_nodes_agree.proofs.Nodes.Agree.{nodes_agree}
use Rattle.bfs_nodes_agree.proofs.node_calls.laws.nodes_agree.Goals as goal

pub returns : goal.returns
returns c =
    nodes_agree c.steps_are_turns.ensures c.turns_may_be_taken.ensures c.replicas_agree.ensures c.a_replica_stays_itself.ensures c.views_are_entered.ensures.kept
    c.message_was_written.ensures c.batches_with_one_text.ensures c.quorums_meet.ensures c.certificates_make_checkpoints_stable.ensures
