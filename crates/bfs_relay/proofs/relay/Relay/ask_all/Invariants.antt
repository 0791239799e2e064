use Rattle.std.proofs.Common.{◌≡◌}
use Rattle.std.specs.List.{fold, range_with_len}
use Rattle.bfs_relay.specs.Relays.{asked_at}
use Rattle.bfs_relay.proofs.relay.Relay.ask_all.Given as goal

abbrev pub invariant-loop-place : goal.invariant-loop-place
invariant-loop-place l = l.self ≡ fold (asked_at l.now) l.fn.self (range_with_len 0 l.place)
