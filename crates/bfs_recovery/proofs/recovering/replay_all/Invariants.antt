use Rattle.std.proofs.Common.{◌≡◌, map, take, Some}
use Rattle.bfs_recovery.specs.Recovering.{after_bodies}
use Rattle.bfs_recovery.proofs.recovering.replay_all.Given as goal

abbrev pub invariant-loop-body : goal.invariant-loop-body
invariant-loop-body g l = after_bodies l.fn.node (take l.body-index (map (λ body. body.now) l.bodies)) ≡ Some l.node
