-- What is looked at in a tree to tell whether its file system is well formed. It is proved that this tells `IsWellFormed`, so nothing
-- here has to be believed.
use Rattle.std.specs.Prelude.{◌≡◌, ℕ, ◌+◌, ◌==◌, ◌&&◌, ◌||◌, Bool, true, not, IsTrue, min, Option, Some, None, nat_le, nat_lt, if◌then◌else◌}
use Rattle.std.specs.List.{list_all, AllByRecursion}
use Rattle.std.specs.FinMap.{entries}
use Rattle.bfs_model.specs.Server.Tree.{Entry, Inode, Inodes, root_id, first_ordinal, is_directory_body, entries_in, parent_of}
use Rattle.bfs_model.specs.Server.WellFormed.{named, directories_among, IsLimited, IsNumbered, ReachesRoot}
use Rattle.bfs_tree.specs.Inside.WellFormed.{is_child}
use Rattle.bfs_digest.specs.Inside.Names.{Counted, counted_at, most_counted}

-- a cookie of an earlier request
abbrev pub is_cookie : (ordinal : ℕ) → Entry → Bool
is_cookie ordinal entry = nat_le first_ordinal entry.cookie && nat_lt entry.cookie ordinal

-- what is named may be named there, and a directory has the links that come of it
abbrev pub holds_children : Inodes → ℕ × Inode → Bool
holds_children inodes inode =
    list_all (λ entry. is_child inodes inode.0 entry.child) (entries_in inode.1.body)
    && (not (is_directory_body inode.1.body) || inode.1.links == 2 + directories_among inodes (entries_in inode.1.body))

-- an inode of which no more can be told before all entries are counted
pub record IsPlaced (inodes : Inodes) (ordinal : ℕ) (inode : ℕ × Inode) : Type 0 where
  pub limited : IsLimited inode.1
  pub numbered : IsNumbered ordinal inode.0 inode.1
  pub holds : holds_children inodes inode ≡ true

-- all inodes are such, and their names are counted; or not all are such
abbrev pub TellsPlaced : Option Counted → Inodes → (ordinal : ℕ) → Type 0
TellsPlaced (Some names) inodes ordinal = AllByRecursion (IsPlaced inodes ordinal) (entries inodes) × ((id : ℕ) → counted_at names id ≡ min (named inodes id) most_counted)
TellsPlaced None inodes ordinal = AllByRecursion (IsPlaced inodes ordinal) (entries inodes) → ⊥

-- what so many entries name is named as often as it should be: a directory once, unless it is the root, and anything else by as many
-- entries as it has links
abbrev pub is_named_so : (count : ℕ) → ℕ × Inode → Bool
is_named_so count inode = if is_directory_body inode.1.body then inode.0 == root_id || count == 1 else count == inode.1.links

abbrev pub is_named : Counted → ℕ × Inode → Bool
is_named names inode = is_named_so (counted_at names inode.0) inode

-- going up from a directory leads to the root
abbrev pub LeadsToRoot : Inodes → ℕ × Inode → Type 0
LeadsToRoot inodes inode = IsTrue (is_directory_body inode.1.body) → ReachesRoot (parent_of inodes) inode.0

-- going up from each of them leads to the root, which is one of them
pub record AreReached (inodes : Inodes) (has : ℕ → Bool) : Type 0 where
  pub root : has root_id ≡ true
  pub way : (id : ℕ) → has id ≡ true → ReachesRoot (parent_of inodes) id
