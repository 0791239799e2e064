-- What is looked at in each inode to tell whether a tree is well formed. It is proved that this tells `IsWellFormedTree`, so
-- nothing here has to be believed.
use Rattle.std.specs.Prelude.{ℕ, ◌+◌, ◌==◌, ◌&&◌, ◌||◌, Bool, true, false, not, IsTrue, List, length, nat_le}
use Rattle.std.specs.List.{list_all}
use Rattle.std.specs.Option.{option_map_or}
use Rattle.std.specs.FinMap.{get}
use Rattle.bfs_model.specs.Server.Limits.{most_name_bytes}
use Rattle.bfs_model.specs.Server.Directories.{is_bad_name}
use Rattle.bfs_model.specs.Server.Tree.{Listing, Body, file, directory, link, Inode, Inodes, root_id, entries_at}
use Rattle.bfs_model.specs.Server.Procedures.Renaming.{is_below}
use Rattle.bfs_model.specs.Server.WellFormed.{times, named, directories_among, IsLimited}

-- a name that an entry may have
abbrev pub is_good_name : List ℕ → Bool
is_good_name name = not (is_bad_name name) && nat_le (length name) most_name_bytes

-- a directory may name anything but the root, and a directory that lies in another one
abbrev pub may_name : (dir child : ℕ) → Body → Bool
may_name dir child (file bytes) = true
may_name dir child (directory listing) = not (child == root_id) && listing.parent == dir
may_name dir child (link path) = true

-- what a directory names is there, and is such an inode
abbrev pub is_child : Inodes → (dir child : ℕ) → Bool
is_child inodes dir child = option_map_or (λ inode. may_name dir child inode.body) (get inodes child) false

-- a directory names such inodes alone, has the links that come of them, is the root or named once in its parent, and lies
-- below the root
abbrev pub is_directory_in_place : Inodes → (id links : ℕ) → Listing → Bool
is_directory_in_place inodes id links listing =
    list_all (λ entry. is_child inodes id entry.child) listing.entries
    && links == 2 + directories_among inodes listing.entries
    && (id == root_id || times id (entries_at (get inodes listing.parent)) == 1)
    && is_below inodes id root_id

-- a file or a symbolic link has as many links as entries name it
abbrev pub is_in_place : Inodes → (id links : ℕ) → Body → Bool
is_in_place inodes id links (file bytes) = links == named inodes id
is_in_place inodes id links (directory listing) = is_directory_in_place inodes id links listing
is_in_place inodes id links (link path) = links == named inodes id

-- an inode is within the limits, and in its place
abbrev pub IsInOrder : Inodes → ℕ × Inode → Type 0
IsInOrder inodes inode = IsLimited inode.1 × IsTrue (is_in_place inodes inode.0 inode.1.links inode.1.body)
