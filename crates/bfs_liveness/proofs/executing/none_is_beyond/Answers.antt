use Rattle.bfs_liveness.proofs.Beyond.{none_is_beyond}
use Rattle.bfs_liveness.proofs.executing.none_is_beyond.Goals as goal

pub returns : goal.returns
returns c = none_is_beyond c.what_is_below.ensures c.steps_are_turns.ensures c.turns_may_be_taken.ensures c.quorums_are_carried.ensures
