use Rattle.std.proofs.Common.{◌≡◌, map}
use Rattle.std.specs.List.{range_with_len}
use Rattle.bfs_relay.specs.GivenKeys.{no_keys}
use Rattle.bfs_relay.proofs.given_keys.keyless.Given as goal

abbrev pub invariant-loop-client : goal.invariant-loop-client
invariant-loop-client l = l.all.items ≡ map no_keys (range_with_len 0 l.client)
