use Rattle.std.proofs.Common.{◌≡◌}
use Rattle.std.specs.List.{fold}
use Rattle.bfs_relay.specs.GivenKeys.{with_keys}
use Rattle.bfs_relay.proofs.given_keys.put_all.Given as goal

abbrev pub invariant-loop-keys : goal.invariant-loop-keys
invariant-loop-keys l = fold with_keys l.all.items l.keys-iterator.rest.items ≡ fold with_keys l.fn.all.items l.fn.given.items
