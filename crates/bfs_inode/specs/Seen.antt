-- An inode of the code as one of the model, and its limits.
use Rattle.std.specs.Prelude.{◌≤◌}
use Rattle.bfs_model.specs.Server.Limits.{most_links}
use Rattle.bfs_model.specs.Server.Tree as model
use Rattle.bfs_types.specs.declared.limits.TheConstants.{MOST_PERMISSIONS}
use Rattle.bfs_inode.specs.declared.inodes.Inode.TheInside.{Inside}
use Rattle.bfs_inode.specs.Inodes.{body_seen}

abbrev pub seen : Inside → model.Inode
seen inode = record { permissions = inode.permissions; links = inode.links; uid = inode.uid; gid = inode.gid; atime = inode.atime; mtime = inode.mtime; ctime = inode.ctime; body = body_seen inode.body }

-- its permissions are the twelve low bits of a mode, and its links within their limit
abbrev pub IsWithin : Inside → Type 0
IsWithin inode = (inode.permissions ≤ MOST_PERMISSIONS) × (inode.links ≤ most_links)
