use Rattle.std.proofs.Common.{◌≡◌, ◌+◌, ◌-◌, ◌≤◌}
use Rattle.std.specs.List.{flat_map, range_with_len}
use Rattle.bfs_log.specs.Logs.{as_messages}
use Rattle.bfs_model.specs.Server.Limits.{log_size}
use Rattle.bfs_order.specs.Replica.Resending.{resent_of}
use Rattle.bfs_order.proofs.order.Order.said_since.Given as goal

abbrev pub invariant-loop-number : goal.invariant-loop-number
invariant-loop-number l =
    (l.sent.items ≡ as_messages (flat_map (resent_of l.self l.to) (range_with_len l.self.low (l.number - l.self.low))))
    × (l.self.low ≤ l.number)
    × (l.number ≤ l.self.low + log_size + 1)
