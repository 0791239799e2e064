use Rattle.std.proofs.Common.{drop}
use Rattle.std.specs.Prelude.{◌↔◌}
use Rattle.bfs_model.specs.Server.Tree.{spent_ordinal}
use Rattle.bfs_model.specs.Server.WellFormed.{IsRising}
use Rattle.bfs_inode.proofs.directories.order.cookies_rise.Given as goal

-- all rise just if those that are left rise from the least on
abbrev pub invariant-loop-entry : goal.invariant-loop-entry
invariant-loop-entry l = IsRising l.least (drop l.entry-index l.entries) spent_ordinal ↔ IsRising 0 l.entries spent_ordinal
