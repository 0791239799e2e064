use Rattle.std.proofs.Common.{◌≡◌, true}
use Rattle.bfs_tree.specs.Tree.{reach_of}
use Rattle.tests_trees.proofs.trees.judges.Given as goal

-- the tree is whole
abbrev pub invariant-loop-planted : goal.invariant-loop-planted
invariant-loop-planted g l = (reach_of l.tree).whole ≡ true
