-- The attributes of an inode (RFC 1094 section 2.3.5, fattr) and how large it is.
use Rattle.std.specs.Prelude.{ℕ, ◌+◌, ◌*◌, ◌/◌, length}
use Rattle.bfs_model.specs.Server.Limits.{most_data_bytes}
use Rattle.bfs_model.specs.Server.Tree.{Time, Body, file, directory, link, Inode}

-- the types of inodes that there are (RFC 1094 section 2.3.2, ftype)
pub data FileType : Type 0 where
  regular : FileType
  directory_type : FileType
  symbolic_link : FileType

-- RFC 1094 section 2.3.5 but for what is the same of each inode or follows from the rest: the blocksize, rdev,
-- the number of blocks and the fsid, which the spelling adds
pub record Attributes : Type 0 where
  pub file_type : FileType
  pub permissions : ℕ
  pub links : ℕ
  pub uid : ℕ
  pub gid : ℕ
  pub size : ℕ
  pub fileid : ℕ
  pub atime : Time
  pub mtime : Time
  pub ctime : Time

abbrev pub type_of : Body → FileType
type_of (file bytes) = regular
type_of (directory listing) = directory_type
type_of (link path) = symbolic_link

-- in bytes; a directory counts 32 for each entry, `.` and `..` among them
abbrev pub size_of : Body → ℕ
size_of (file bytes) = length bytes
size_of (directory listing) = 32 * (length listing.entries + 2)
size_of (link path) = length path

abbrev pub attributes_of : ℕ → Inode → Attributes
attributes_of id inode = record { file_type = type_of inode.body; permissions = inode.permissions; links = inode.links; uid = inode.uid; gid = inode.gid; size = size_of inode.body; fileid = id; atime = inode.atime; mtime = inode.mtime; ctime = inode.ctime }

-- the size of a block in bytes
abbrev pub block_size : ℕ
block_size = 4096

-- the blocks that so many bytes take, rounded up
abbrev pub blocks_of : ℕ → ℕ
blocks_of size = (size + 4095) / 4096

-- Of the file system (RFC 1094 section 2.2.18) -----------------------------------------------------------------------

-- the bytes that a READ or WRITE moves at best: as many as it may
abbrev pub transfer_size : ℕ
transfer_size = most_data_bytes

-- the blocks that there are, in all
abbrev pub total_blocks : ℕ
total_blocks = 262144
