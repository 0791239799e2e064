use Rattle.std.specs.Prelude.{◌↔◌}
use Rattle.std.specs.FinMap.{entries}
use Rattle.std.specs.List.{AllByRecursion}
use Rattle.bfs_tree.specs.Tree.{at_home}
use Rattle.bfs_digest.specs.Inside.Formation.{IsPlaced}
use Rattle.bfs_digest.proofs.Counting.{InodesCounted}
use Rattle.bfs_digest.proofs.formation.names_of.Given as goal

-- all are placed just if those that are left are, and the others are counted
abbrev pub invariant-loop-id : goal.invariant-loop-id
invariant-loop-id l = record {
  placed : AllByRecursion (IsPlaced (at_home l.tree) l.ordinal) l.id-iterator ↔ AllByRecursion (IsPlaced (at_home l.tree) l.ordinal) (entries (at_home l.tree));
  counted : InodesCounted l.names l.id-iterator (entries (at_home l.tree));
}
