use Rattle.std.proofs.Common.{◌≡◌, ◌+◌, sum_by}
use Rattle.bfs_model.specs.Server.WellFormed.{named}
use Rattle.bfs_tree.proofs.WellFormed.Loops.{names_at}
use Rattle.bfs_tree.specs.Tree.{at_home}
use Rattle.bfs_tree.proofs.well_formed.has_names.Given as goal

-- the links that are left are for the names in the inodes that are left
abbrev pub invariant-loop-inode : goal.invariant-loop-inode
invariant-loop-inode l = l.left + named (at_home l.tree) l.id ≡ l.count + sum_by (names_at l.id) l.inode-iterator
