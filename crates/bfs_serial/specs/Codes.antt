-- The code of inodes by their fileids, for models that hold them.
use Rattle.std.specs.Coded.{Coded, coded_ℕ}
use Rattle.std.specs.FinMap.{code}
use Rattle.bfs_model.specs.Server.Tree.{Inodes}
use Rattle.bfs_inode.specs.contracts.inodes.Inode as inode

pub inodes_code : Coded Inodes
inodes_code = code coded_ℕ inode.the_row.coded
