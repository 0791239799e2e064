use Rattle.std.proofs.Common.{◌≡◌, replicate}
use Rattle.bfs_view_change.proofs.keeping.none_asked.Given as goal

abbrev pub invariant-loop : goal.invariant-loop
invariant-loop l = l.all.items ≡ replicate l.counter 0
