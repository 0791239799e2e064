use Rattle.std.proofs.Common.{◌≡◌, IsTrue, ◌-◌}
use Rattle.std.specs.FinMap.{len}
use Rattle.bfs_model.specs.Server.Procedures.Renaming.{is_within}
use Rattle.bfs_tree.proofs.ancestry.is_below.Given as goal

-- what is left of the walk meets the other one just if the whole walk does
abbrev pub invariant-loop-step : goal.invariant-loop-step
invariant-loop-step g l = record {
  whole : IsTrue ((g.S.Store.reach l.store).whole);
  end : l._step-end ≡ len (g.S.Store.inodes l.store);
  left : is_within (g.S.Store.inodes l.store) (l._step-end - l._step) l.at l.other ≡ is_within (g.S.Store.inodes l.store) (len (g.S.Store.inodes l.store)) l.fn.id l.other;
}
