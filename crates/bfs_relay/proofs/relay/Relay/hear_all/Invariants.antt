use Rattle.std.proofs.Common.{◌≡◌, take}
use Rattle.std.specs.List.{fold}
use Rattle.bfs_relay.specs.Relays.{relay_heard}
use Rattle.bfs_relay.proofs.relay.Relay.hear_all.Given as goal

abbrev pub invariant-loop-number : goal.invariant-loop-number
invariant-loop-number g l = (l.self ≡ fold (relay_heard l.now) l.fn.self (take l.number l.replies.items)) × (l.self.clients ≡ l.fn.self.clients)
