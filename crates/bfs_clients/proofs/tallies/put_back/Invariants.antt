use Rattle.std.proofs.Common.{◌≡◌}
use Rattle.bfs_clients.specs.Inside.Places.{put_all}
use Rattle.bfs_clients.proofs.tallies.put_back.Given as goal

abbrev pub invariant-loop-place : goal.invariant-loop-place
invariant-loop-place l = l.tallies.items ≡ put_all l.fn.tallies.items l.yielded
