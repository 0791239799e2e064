-- The parts of a file system.
use Rattle.std.specs.Prelude.{ℕ}
use Rattle.bfs_model.specs.Server.Tree.{Time, FileSystem}
use Rattle.bfs_tree.specs.Slots.{Slots}
use Rattle.bfs_tree.specs.Tree.{at_home}

-- the file system of a tree, an ordinal for the next request, and a time of the last batch
abbrev pub file_system_of : Slots → (next_ordinal : ℕ) → (last_time : Time) → FileSystem
file_system_of tree next_ordinal last_time = record { tree = at_home tree; next_ordinal = next_ordinal; last_time = last_time }
