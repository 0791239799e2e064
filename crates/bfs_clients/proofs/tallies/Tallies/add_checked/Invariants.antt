use Rattle.std.proofs.Common.{◌≡◌, take}
use Rattle.bfs_clients.specs.Tallies.{all_tallied}
use Rattle.bfs_clients.proofs.tallies.Tallies.add_checked.Given as goal

abbrev pub invariant-loop-number : goal.invariant-loop-number
invariant-loop-number l = l.self ≡ all_tallied l.clients (take l.number l.messages) l.fn.self
