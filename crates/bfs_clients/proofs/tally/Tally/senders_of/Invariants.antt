use Rattle.std.proofs.Common.{◌≡◌, take}
use Rattle.bfs_clients.specs.Tallies.{senders_of}
use Rattle.bfs_clients.proofs.tally.Tally.senders_of.Given as goal

abbrev pub invariant-loop-one : goal.invariant-loop-one
invariant-loop-one l = l.count ≡ senders_of (take l.one-index l.one-items) l.wanted
