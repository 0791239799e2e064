-- The frozen inodes that a frozen file system is to share.
use Rattle.std.specs.Prelude.{List, map}
use Rattle.std.specs.Arc.{arc_value}
use Rattle.bfs_inode.specs.Records.{Frozen}
use Rattle.bfs_digest.specs.declared.sharing.Shared.{Shared}
use Rattle.bfs_digest.specs.declared.sharing.Shared.TheVariants.{Kept, Made}

abbrev pub shared_frozen : Shared → Frozen
shared_frozen (Kept frozen) = arc_value frozen.now
shared_frozen (Made frozen) = arc_value frozen

abbrev pub all_frozen : List Shared → List Frozen
all_frozen shared = map shared_frozen shared
