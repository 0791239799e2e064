-- What holds of every live file system.
use Rattle.std.specs.Prelude.{◌≡◌, ℕ, ◌+◌, ◌==◌, ◌<◌, ◌≤◌, IsTrue, IsFalse, List, [], ◌∷◌, length, Option, Some, None, is_some, sum_by, if◌then◌else◌}
use Rattle.std.specs.List.{AllByRecursion}
use Rattle.std.specs.FinMap.{get, entries}
use Rattle.bfs_model.specs.Server.Limits.{most_file_bytes, most_name_bytes, most_path_bytes, most_entries, most_links}
use Rattle.bfs_model.specs.Server.Tree.{Entry, Body, file, directory, link, Inode, Inodes, FileSystem, root_id, first_ordinal, spent_ordinal, is_directory_body, is_directory, entries_in, entries_at, parent_in, parent_of}
use Rattle.bfs_model.specs.Server.Directories.{is_bad_name, entry_named}

-- The tree -----------------------------------------------------------------------------------------------------------

-- how many of the entries name an inode
abbrev pub times : (id : ℕ) → List Entry → ℕ
times id [] = 0
times id (entry ∷ entries) = (if entry.child == id then 1 else 0) + times id entries

-- how many entries of all directories name it
abbrev pub named : Inodes → (id : ℕ) → ℕ
named inodes id = sum_by (λ inode. times id (entries_in inode.1.body)) (entries inodes)

-- how many of the entries name a directory
abbrev pub directories_among : Inodes → List Entry → ℕ
directories_among inodes [] = 0
directories_among inodes (entry ∷ entries) = (if is_directory (get inodes entry.child) then 1 else 0) + directories_among inodes entries

-- going up from directory to directory leads to the root
pub data ReachesRoot (above : ℕ → Option ℕ) : ℕ → Type 0 where
  at_root : {id : ℕ} → id ≡ root_id → ReachesRoot above id
  step : {id : ℕ} (parent : ℕ) → above id ≡ Some parent → ReachesRoot above parent → ReachesRoot above id

-- the inodes are a tree of directories, with the files and symbolic links that these name
pub record IsTree (inodes : Inodes) : Type 0 where
  pub root : IsTrue (is_directory (get inodes root_id))
  -- what an entry names is there
  pub there : (dir id : ℕ) → 1 ≤ times id (entries_at (get inodes dir)) → IsTrue (is_some (get inodes id))
  -- the links of a file or a symbolic link are the entries that name it
  pub links : (id : ℕ) (inode : Inode) → get inodes id ≡ Some inode → IsFalse (is_directory_body inode.body) → inode.links ≡ named inodes id
  -- those of a directory are two and the directories in it
  pub directory_links : (id : ℕ) (inode : Inode) → get inodes id ≡ Some inode → IsTrue (is_directory_body inode.body) → inode.links ≡ 2 + directories_among inodes (entries_in inode.body)
  -- no entry names the root, and just one names each other directory, in the directory that is its parent
  pub root_unnamed : named inodes root_id ≡ 0
  pub named_once : (id : ℕ) → IsTrue (is_directory (get inodes id)) → (id ≡ root_id → ⊥) → named inodes id ≡ 1
  pub in_parent : (dir id parent : ℕ) → 1 ≤ times id (entries_at (get inodes dir)) → parent_of inodes id ≡ Some parent → parent ≡ dir
  pub reaches : (id : ℕ) → IsTrue (is_directory (get inodes id)) → ReachesRoot (parent_of inodes) id

-- The limits ---------------------------------------------------------------------------------------------------------

-- cookies rise, from one that is the least on, and are below an ordinal
abbrev pub IsRising : (least : ℕ) → List Entry → (ordinal : ℕ) → Type 0
IsRising least [] ordinal = Unit {0}
IsRising least (entry ∷ entries) ordinal = (least ≤ entry.cookie) × (entry.cookie < ordinal) × IsRising (entry.cookie + 1) entries ordinal

-- names are good ones, and differ
abbrev pub HasNames : List Entry → Type 0
HasNames [] = Unit {0}
HasNames (entry ∷ entries) = IsFalse (is_bad_name entry.name) × (length entry.name ≤ most_name_bytes) × (entry_named entry.name entries ≡ None) × HasNames entries

-- no two entries have one name
abbrev pub NamesDiffer : List Entry → Type 0
NamesDiffer [] = Unit {0}
NamesDiffer (entry ∷ entries) = (entry_named entry.name entries ≡ None) × NamesDiffer entries

-- a file or a symbolic link has a link; cookies rise, and are ordinals
abbrev pub BodyIsLimited : (links : ℕ) → Body → Type 0
BodyIsLimited links (file bytes) = (1 ≤ links) × (length bytes ≤ most_file_bytes)
BodyIsLimited links (directory listing) = (length listing.entries ≤ most_entries) × IsRising 0 listing.entries spent_ordinal × HasNames listing.entries
BodyIsLimited links (link path) = (1 ≤ links) × (length path ≤ most_path_bytes)

pub record IsLimited (inode : Inode) : Type 0 where
  pub links : inode.links ≤ most_links
  pub body : BodyIsLimited inode.links inode.body

pub record IsWellFormedTree (inodes : Inodes) : Type 0 where
  pub tree : IsTree inodes
  pub limited : (id : ℕ) (inode : Inode) → get inodes id ≡ Some inode → IsLimited inode

-- The file system ----------------------------------------------------------------------------------------------------

-- the fileid of an inode is the root's or the ordinal of an earlier request, cookies are such ordinals too, and the root is its own parent
pub record IsNumbered (ordinal id : ℕ) (inode : Inode) : Type 0 where
  pub fileid : (root_id ≤ id) × (id < ordinal)
  pub cookies : AllByRecursion (λ entry. (first_ordinal ≤ entry.cookie) × (entry.cookie < ordinal)) (entries_in inode.body)
  pub root_parent : id ≡ root_id → parent_in inode.body ≡ Some root_id

pub record IsWellFormed (files : FileSystem) : Type 0 where
  pub tree : IsWellFormedTree files.tree
  pub numbered : (id : ℕ) (inode : Inode) → get files.tree id ≡ Some inode → IsNumbered files.next_ordinal id inode
  -- ordinals begin at the first, and end where they are spent
  pub ordinal : (first_ordinal ≤ files.next_ordinal) × (files.next_ordinal ≤ spent_ordinal)
