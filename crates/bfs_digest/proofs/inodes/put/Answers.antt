-- A whole tree owns every fileid.
use Rattle.bfs_tree.specs.Laws.Knowing.{knows_all}
use Rattle.bfs_tree.specs.Tree.{lent}
use Rattle.bfs_digest.proofs.inodes.put.Goals as goal

pub insert-requires : goal.insert-requires
insert-requires c = knows_all (lent c.args.tree.now) c.requires _
