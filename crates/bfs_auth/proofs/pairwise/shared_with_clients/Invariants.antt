use Rattle.std.proofs.Common.{◌≡◌, map}
use Rattle.std.specs.List.{range_with_len}
use Rattle.bfs_auth.specs.Keys.{shared_keys}
use Rattle.bfs_auth.specs.declared.principals.Principal.TheVariants.{Client}
use Rattle.bfs_auth.proofs.pairwise.shared_with_clients.Given as goal

abbrev pub invariant-loop-number : goal.invariant-loop-number
invariant-loop-number l = l.all.items ≡ map (λ number. shared_keys l.secret l.me (Client number)) (range_with_len 0 l.number)
