use Rattle.std.specs.Prelude.{◌↔◌}
use Rattle.std.specs.List.{AllByRecursion}
use Rattle.std.specs.FinMap.{entries}
use Rattle.bfs_tree.specs.Inside.WellFormed.{IsInOrder}
use Rattle.bfs_tree.specs.Tree.{at_home}
use Rattle.bfs_tree.proofs.well_formed.are_in_order.Given as goal

-- all are in order just if those that are left are
abbrev pub invariant-loop-id : goal.invariant-loop-id
invariant-loop-id l = AllByRecursion (IsInOrder (at_home l.tree)) l.id-iterator ↔ AllByRecursion (IsInOrder (at_home l.tree)) (entries (at_home l.tree))
