use Rattle.std.proofs.Common.{◌≡◌, ◌≤◌}
use Rattle.std.specs.Prelude.{◌==◌, ◌&&◌, not}
use Rattle.bfs_votes.specs.Votes.{count_below}
use Rattle.bfs_order.specs.Replica.Behind.{is_ahead}
use Rattle.bfs_order.proofs.order.Order.is_behind.Given as goal

abbrev pub invariant-loop-replica : goal.invariant-loop-replica
invariant-loop-replica l = (l.ahead ≡ count_below (λ k. not (k == l.self.me) && is_ahead l.self k) l.replica) × (l.ahead ≤ l.replica)
