use Rattle.std.proofs.Common.{◌≡◌, true}
use Rattle.bfs_tree.specs.Tree.{reach_of}
use Rattle.tests_trees.proofs.trees.plant_all.Given as goal

-- the tree is whole as before
abbrev pub invariant-loop-inode : goal.invariant-loop-inode
invariant-loop-inode l = ((reach_of l.tree).whole ≡ true) × (reach_of l.tree ≡ reach_of l.fn.tree)
