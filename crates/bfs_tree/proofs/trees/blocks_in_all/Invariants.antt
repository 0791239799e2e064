use Rattle.std.proofs.Common.{◌≡◌, ◌+◌, sum_by}
use Rattle.std.specs.FinMap.{entries}
use Rattle.bfs_tree.specs.Tree.{at_home}
use Rattle.bfs_tree.proofs.BlockLemmas.{blocks_at, IsRoom}
use Rattle.bfs_tree.proofs.trees.blocks_in_all.Given as goal

abbrev pub invariant-loop-id : goal.invariant-loop-id
invariant-loop-id l = record {
  total : l.blocks + sum_by blocks_at l.id-iterator ≡ sum_by blocks_at (entries (at_home l.tree));
  room : IsRoom l.blocks l.id-iterator;
}
