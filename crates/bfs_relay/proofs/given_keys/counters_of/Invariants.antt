use Rattle.std.proofs.Common.{◌≡◌, take}
use Rattle.std.specs.List.{filter_map}
use Rattle.bfs_relay.specs.GivenKeys.{counter_for}
use Rattle.bfs_relay.proofs.given_keys.counters_of.Given as goal

abbrev pub invariant-loop-keys : goal.invariant-loop-keys
invariant-loop-keys l = l.counters.items ≡ filter_map (counter_for l.next) (take l.keys-index l.given)
