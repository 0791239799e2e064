use Rattle.std.proofs.Common.{◌≡◌, map}
use Rattle.std.specs.List.{range_with_len}
use Rattle.bfs_clients.specs.Clients.{keys_of_client}
use Rattle.bfs_clients.proofs.clients.Clients.new.Given as goal

-- the keys of those so far
abbrev pub invariant-loop-client : goal.invariant-loop-client
invariant-loop-client l = l.keys.items ≡ map (keys_of_client l.settings) (range_with_len 0 l.client)
