-- What the lengths in a call's arguments keep to: the names that it makes, and a symbolic link's path.
use Rattle.std.specs.Prelude.{◌≤◌, length}
use Rattle.bfs_model.specs.Server.Limits.{most_name_bytes, most_path_bytes}
use Rattle.bfs_model.specs.Bytes.Arguments.{Call, create, rename, make_link, make_symbolic_link, make_directory}

abbrev pub IsShort : Call → Type 0
IsShort (create dir name settings) = length name ≤ most_name_bytes
IsShort (rename from from_name to to_name) = length to_name ≤ most_name_bytes
IsShort (make_link file dir name) = length name ≤ most_name_bytes
IsShort (make_symbolic_link dir name path settings) = (length name ≤ most_name_bytes) × (length path ≤ most_path_bytes)
IsShort (make_directory dir name settings) = length name ≤ most_name_bytes
IsShort call = Unit {0}
