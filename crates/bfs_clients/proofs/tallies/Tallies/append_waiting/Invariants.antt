use Rattle.std.proofs.Common.{◌≡◌, ◌++◌}
use Rattle.std.specs.Prelude.{filter}
use Rattle.bfs_clients.specs.Tallies.{waits}
use Rattle.bfs_clients.proofs.tallies.Tallies.append_waiting.Given as goal

abbrev pub invariant-loop-tally : goal.invariant-loop-tally
invariant-loop-tally l = record {
  so_far : l.self ≡ l.fn.self ++ filter waits l.yielded;
  left : l.fn.others ≡ l.yielded ++ l.tally-iterator.rest.items;
}
