-- None of those so far is agreed on, so the first one is among those that are left.
use Rattle.std.proofs.Common.{◌≡◌, drop}
use Rattle.std.specs.List.{find}
use Rattle.bfs_clients.specs.Tallies.{is_agreed}
use Rattle.bfs_clients.proofs.tally.Tally.result.Given as goal

abbrev pub invariant-loop-one : goal.invariant-loop-one
invariant-loop-one l = find (is_agreed l.self) (drop l.one-index l.one-items) ≡ find (is_agreed l.self) l.self.counted
