use Rattle.std.proofs.Common.{◌≡◌, take, nat_lt}
use Rattle.std.specs.List.{filter}
use Rattle.bfs_view_change.specs.Changes.Keeping.{least_of}
use Rattle.bfs_view_change.proofs.keeping.KeptViewChanges.least_above.Given as goal

abbrev pub invariant-loop-asked : goal.invariant-loop-asked
invariant-loop-asked l = l.least ≡ least_of (filter (nat_lt l.view) (take l.asked-index l.asked-items))
