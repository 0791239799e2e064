use Rattle.bfs_rpc.proofs.Words.{IsSoFar}
use Rattle.bfs_rpc.proofs.cred.gids_at.Given as goal

abbrev pub invariant-loop-counter : goal.invariant-loop-counter
invariant-loop-counter l = IsSoFar l.count l.fn.reader.left l._counter l.gids l.reader.left
