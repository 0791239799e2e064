use Rattle.std.proofs.Common.{◌≡◌}
use Rattle.bfs_saving.proofs.requests.pending_of.Given as goal

abbrev pub invariant-loop-signed : goal.invariant-loop-signed
invariant-loop-signed l = l.pending ≡ l.yielded
