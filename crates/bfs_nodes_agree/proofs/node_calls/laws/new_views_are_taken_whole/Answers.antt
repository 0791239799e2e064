use Rattle.bfs_nodes_agree.proofs.Nodes.Whole.{entered_whole, kept_valid, taken_whole}
use Rattle.bfs_nodes_agree.proofs.node_calls.laws.new_views_are_taken_whole.Goals as goal

pub returns : goal.returns
returns c =
    let whole = c.nothing_is_passed_over.ensures in
    let same = c.a_replica_stays_itself.ensures in
    let views = c.views_are_entered.ensures.kept in
    let written = c.message_was_written.ensures in
    record { taken = taken_whole whole; entered = entered_whole whole same views written; kept = kept_valid whole same views written }
