use Rattle.std.proofs.Common.{◌≡◌, List, map, take}
use Rattle.bfs_checkpoints.specs.Keeping.{Kept}
use Rattle.bfs_node.specs.Saving.{AreTaken, saved_snapshot}
use Rattle.bfs_node.proofs.restoring.restore_snapshots.Given as goal

abbrev pub invariant-loop-state : goal.invariant-loop-state
invariant-loop-state g l = record {
  found : map saved_snapshot l.kept.items ≡ take l.state-index l.states;
  only : (kept : List Kept) → AreTaken kept → l.states ≡ map saved_snapshot kept → l.kept.items ≡ take l.state-index kept;
}
