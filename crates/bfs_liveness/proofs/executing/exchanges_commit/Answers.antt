use Rattle.bfs_liveness.proofs.Steps.{exchanges_commit}
use Rattle.bfs_liveness.proofs.executing.exchanges_commit.Goals as goal

pub returns : goal.returns
returns c = exchanges_commit c.what_is_below.ensures c.what_is_resent_was_sent.ensures.fair
