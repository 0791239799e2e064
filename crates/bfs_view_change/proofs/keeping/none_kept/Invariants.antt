use Rattle.std.proofs.Common.{◌≡◌, None, replicate}
use Rattle.bfs_view_change.proofs.keeping.none_kept.Given as goal

abbrev pub invariant-loop : goal.invariant-loop
invariant-loop l = l.all.items ≡ replicate l.counter None
