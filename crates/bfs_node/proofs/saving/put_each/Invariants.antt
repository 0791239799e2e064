use Rattle.std.proofs.Common.{◌≡◌, ◌++◌, take, flat_map}
use Rattle.std.specs.List.{AllByRecursion}
use Rattle.bfs_saving.specs.Saved.{FitsState, state_text}
use Rattle.bfs_node.specs.Saving.{AreTaken, saved_snapshot}
use Rattle.bfs_node.proofs.saving.put_each.Given as goal

abbrev pub invariant-loop-one : goal.invariant-loop-one
invariant-loop-one l = record {
  text : l.out.items ≡ l.fn.out.items ++ flat_map (λ one. state_text (saved_snapshot one)) (take l.one-index l.kept);
  fits : AllByRecursion (λ one. FitsState (saved_snapshot one)) (take l.one-index l.kept);
  taken : AreTaken (take l.one-index l.kept);
}
