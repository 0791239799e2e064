use Rattle.std.proofs.Common.{◌≡◌, ◌-◌}
use Rattle.std.specs.Prelude.{◌↔◌}
use Rattle.std.specs.FinMap.{len}
use Rattle.bfs_model.specs.Server.Tree.{parent_of, root_id}
use Rattle.bfs_model.specs.Server.Procedures.Renaming.{is_within}
use Rattle.bfs_model.specs.Server.WellFormed.{ReachesRoot}
use Rattle.bfs_tree.specs.Tree.{at_home}
use Rattle.bfs_digest.proofs.reach.reaches_root.Given as goal

abbrev pub invariant-loop-step : goal.invariant-loop-step
invariant-loop-step l = record {
  end : l._step-end ≡ len (at_home l.tree);
  way : ReachesRoot (parent_of (at_home l.tree)) l.at ↔ ReachesRoot (parent_of (at_home l.tree)) l.fn.id;
  left : is_within (at_home l.tree) (l._step-end - l._step) l.at root_id ≡ is_within (at_home l.tree) (len (at_home l.tree)) l.fn.id root_id;
}
