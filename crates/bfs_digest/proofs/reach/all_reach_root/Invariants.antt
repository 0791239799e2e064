use Rattle.std.specs.Prelude.{◌↔◌}
use Rattle.std.specs.BTreeSet.{contains}
use Rattle.std.specs.FinMap.{entries}
use Rattle.std.specs.List.{AllByRecursion}
use Rattle.std.specs.Ordering.{nat_cmp}
use Rattle.bfs_tree.specs.Tree.{at_home}
use Rattle.bfs_digest.specs.Inside.Formation.{AreReached, LeadsToRoot}
use Rattle.bfs_digest.proofs.reach.all_reach_root.Given as goal

-- all lead to the root just if those that are left do
abbrev pub invariant-loop-id : goal.invariant-loop-id
invariant-loop-id l = record {
  reached : AreReached (at_home l.tree) (contains nat_cmp l.reached);
  all : AllByRecursion (LeadsToRoot (at_home l.tree)) l.id-iterator ↔ AllByRecursion (LeadsToRoot (at_home l.tree)) (entries (at_home l.tree));
}
