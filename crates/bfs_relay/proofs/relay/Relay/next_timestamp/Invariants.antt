use Rattle.std.proofs.Common.{◌≤◌, take}
use Rattle.std.specs.Prelude.{All}
use Rattle.bfs_relay.proofs.relay.Relay.next_timestamp.Given as goal

abbrev pub invariant-loop-seat : goal.invariant-loop-seat
invariant-loop-seat l = All (λ seat. seat.counter.next ≤ l.next) (take l.seat-index l.self.seats)
