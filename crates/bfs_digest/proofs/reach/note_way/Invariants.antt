use Rattle.std.specs.BTreeSet.{contains}
use Rattle.std.specs.Ordering.{nat_cmp}
use Rattle.bfs_model.specs.Server.Tree.{parent_of}
use Rattle.bfs_model.specs.Server.WellFormed.{ReachesRoot}
use Rattle.bfs_tree.specs.Tree.{at_home}
use Rattle.bfs_digest.specs.Inside.Formation.{AreReached}
use Rattle.bfs_digest.proofs.reach.note_way.Given as goal

abbrev pub invariant-loop-step : goal.invariant-loop-step
invariant-loop-step l = record {
  reached : AreReached (at_home l.tree) (contains nat_cmp l.reached);
  way : ReachesRoot (parent_of (at_home l.tree)) l.at;
}
