use Rattle.std.proofs.Common.{◌≡◌, None, replicate}
use Rattle.bfs_log.proofs.collecting.none_yet.Given as goal

abbrev pub invariant-loop : goal.invariant-loop
invariant-loop l = l.all.items ≡ replicate l.counter None
