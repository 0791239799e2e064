use Rattle.std.proofs.Common.{◌≡◌, ◌++◌}
use Rattle.std.specs.Prelude.{reverse, vec_len}
use Rattle.bfs_log.specs.Logs.{as_messages}
use Rattle.bfs_order.specs.Inside.Growing.{Grown}
use Rattle.bfs_order.specs.Replica.Views.{all_taken_over, as_proposals}
use Rattle.bfs_order.proofs.order.Order.take_over_all.Given as goal

abbrev pub invariant-loop-proposal : goal.invariant-loop-proposal
invariant-loop-proposal l =
    ((all_taken_over l.keys l.self (as_proposals (reverse l.handed.items))).now ≡ (all_taken_over l.keys l.fn.self (as_proposals l.fn.handed.items)).now)
    × (l.sent.items ++ as_messages (all_taken_over l.keys l.self (as_proposals (reverse l.handed.items))).sent ≡ l.fn.sent.items ++ as_messages (all_taken_over l.keys l.fn.self (as_proposals l.fn.handed.items)).sent)
    × Grown l.fn.self l.self

abbrev pub decreases-loop-proposal : goal.decreases-loop-proposal
decreases-loop-proposal l = vec_len l.handed
