-- The class of a caller as the model's.
use Rattle.bfs_model.specs.Server.Access as model
use Rattle.bfs_inode.specs.declared.inodes.access.Class.{Class}
use Rattle.bfs_inode.specs.declared.inodes.access.Class.TheVariants.{Owner, Group, Others}

abbrev pub class_seen : Class → model.Class
class_seen Owner = model.owner
class_seen Group = model.group
class_seen Others = model.others
