use Rattle.bfs_nodes_progress.proofs.Savable.{reached_states_can_be_stored}
use Rattle.bfs_nodes_progress.proofs.living.reached_states_can_be_stored.Goals as goal

pub returns : goal.returns
returns c = reached_states_can_be_stored
    (record { live = c.a_batch_keeps_files_live.ensures; bytes = c.replies_are_bytes.ensures; short = c.replies_are_short.ensures })
    c.what_is_below.ensures.same
