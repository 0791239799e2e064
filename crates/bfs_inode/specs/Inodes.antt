-- What an inode holds, as the model has it.
use Rattle.std.specs.Prelude.{ℕ, ◌+◌, ◌*◌, max, List, [], Option, Some, None}
use Rattle.bfs_model.specs.Bytes.Attributes.{blocks_of}
use Rattle.bfs_model.specs.Server.Limits.{most_file_bytes, most_entries}
use Rattle.bfs_model.specs.Server.Tree as model
use Rattle.bfs_inode.specs.declared.bodies.Body.{Body}
use Rattle.bfs_inode.specs.declared.bodies.Body.TheVariants.{File, Directory, Link}

abbrev pub body_seen : Body → model.Body
body_seen (File bytes) = model.file bytes
body_seen (Directory listing) = model.directory listing
body_seen (Link path) = model.link path

-- the bytes of a file
abbrev pub file_in : model.Body → Option (List ℕ)
file_in (model.file bytes) = Some bytes
file_in (model.directory listing) = None
file_in (model.link path) = None

-- the bytes of a file, none of what is no file
abbrev pub bytes_in : model.Body → List ℕ
bytes_in (model.file bytes) = bytes
bytes_in (model.directory listing) = []
bytes_in (model.link path) = []

-- the path of a symbolic link
abbrev pub path_in : model.Body → Option (List ℕ)
path_in (model.file bytes) = None
path_in (model.directory listing) = None
path_in (model.link path) = Some path

-- How large an inode is at most -----------------------------------------------------------------------------------------

-- in bytes: as the largest file, or as the directory with the most entries
abbrev pub most_size : ℕ
most_size = max most_file_bytes (32 * (most_entries + 2))

-- in blocks
abbrev pub most_blocks : ℕ
most_blocks = blocks_of most_size
