-- What a file system is (RFC 1094 section 2.3): inodes by their fileid, the next ordinal and the last time.
use Rattle.std.specs.Prelude.{ℕ, Bool, true, false, ◌==◌, List, [], Option, Some, None, if◌then◌else◌}
use Rattle.std.specs.Ordering.{nat_cmp}
use Rattle.std.specs.FinMap.{FinMap, empty, insert, get}

-- seconds and microseconds since the beginning of 1970 (RFC 1094 section 2.3.4, timeval)
pub record Time : Type 0 where
  pub seconds : ℕ
  pub useconds : ℕ

-- a name in a directory, the cookie that finds its place, and the fileid of the inode that it names
-- (RFC 1094 section 2.2.17)
pub record Entry : Type 0 where
  pub cookie : ℕ
  pub name : List ℕ
  pub child : ℕ

-- the directory above, and the entries by rising cookie; `.` and `..` are none of them
pub record Listing : Type 0 where
  pub parent : ℕ
  pub entries : List Entry

-- what an inode holds: a file's bytes, a directory's listing, or a symbolic link's path
pub data Body : Type 0 where
  file : List ℕ → Body
  directory : Listing → Body
  link : List ℕ → Body

-- an inode; its permissions are the twelve low bits of the mode (RFC 1094 section 2.3.5)
pub record Inode : Type 0 where
  pub permissions : ℕ
  pub links : ℕ
  pub uid : ℕ
  pub gid : ℕ
  pub atime : Time
  pub mtime : Time
  pub ctime : Time
  pub body : Body

-- the inodes by fileid
abbrev pub Inodes : Type 0
Inodes = FinMap nat_cmp Inode

pub record FileSystem : Type 0 where
  pub tree : Inodes
  pub next_ordinal : ℕ
  pub last_time : Time

-- What is in it at the beginning -------------------------------------------------------------------------------

-- the beginning of 1970, the last time of a new file system
abbrev pub epoch : Time
epoch = record { seconds = 0; useconds = 0 }

-- the fileid of the root
abbrev pub root_id : ℕ
root_id = 2

-- the root of a new file system: mode 040777, owner 0:0, its own parent, and no entries
abbrev pub new_root : Inode
new_root = record { permissions = 0o777; links = 2; uid = 0; gid = 0; atime = epoch; mtime = epoch; ctime = epoch; body = directory (record { parent = root_id; entries = [] }) }

abbrev pub new_tree : Inodes
new_tree = insert empty root_id new_root

-- the ordinal of a file system's first request
abbrev pub first_ordinal : ℕ
first_ordinal = 3

abbrev pub new_file_system : FileSystem
new_file_system = record { tree = new_tree; next_ordinal = first_ordinal; last_time = epoch }

-- Directories ---------------------------------------------------------------------------------------------------

abbrev pub is_directory_body : Body → Bool
is_directory_body (file bytes) = false
is_directory_body (directory listing) = true
is_directory_body (link path) = false

abbrev pub is_directory : Option Inode → Bool
is_directory None = false
is_directory (Some inode) = is_directory_body inode.body

abbrev pub listing_in : Body → Option Listing
listing_in (file bytes) = None
listing_in (directory listing) = Some listing
listing_in (link path) = None

abbrev pub listing_at : Option Inode → Option Listing
listing_at None = None
listing_at (Some inode) = listing_in inode.body

abbrev pub entries_in : Body → List Entry
entries_in (file bytes) = []
entries_in (directory listing) = listing.entries
entries_in (link path) = []

abbrev pub entries_at : Option Inode → List Entry
entries_at None = []
entries_at (Some inode) = entries_in inode.body

abbrev pub parent_in : Body → Option ℕ
parent_in (file bytes) = None
parent_in (directory listing) = Some listing.parent
parent_in (link path) = None

abbrev pub parent_at : Option Inode → Option ℕ
parent_at None = None
parent_at (Some inode) = parent_in inode.body

-- the directory above a directory, if it is not the root
abbrev pub parent_of : Inodes → (id : ℕ) → Option ℕ
parent_of inodes id = if id == root_id then None else parent_at (get inodes id)

-- Ordinals -----------------------------------------------------------------------------------------------------

-- the number of an ordinal when all fileids are used up; it stays there
abbrev pub spent_ordinal : ℕ
spent_ordinal = 4294967296
