-- A directory read page by page (RFC 1094 section 2.2.17): each READDIR goes on behind the last entry of the page before.
use Rattle.std.specs.Prelude.{◌≡◌, ◌≢◌, ◌↔◌, ℕ, ◌+◌, ◌≤◌, Bool, true, false, min, List, [], ◌∷◌, ◌++◌, length, All, Some, IsTrue}
use Rattle.std.specs.FinMap.{get}
use Rattle.bfs_model.specs.Server.Limits.{most_data_bytes}
use Rattle.bfs_model.specs.Server.Tree.{Entry, Listing, Inodes, FileSystem, first_ordinal, listing_at}
use Rattle.bfs_model.specs.Bytes.Replies.{Reply, listed}
use Rattle.bfs_model.specs.Server.Directories.{all_listed, listed_behind, listed_size}
use Rattle.bfs_model.specs.Server.Context.{Context}
use Rattle.bfs_model.specs.Server.Access.{may_read}
use Rattle.bfs_model.specs.Server.Footprints.{lets}
use Rattle.bfs_model.specs.Bytes.Arguments.{read_directory}
use Rattle.bfs_model.specs.Server.Procedures.{procedure}
use Rattle.bfs_model.specs.Server.WellFormed.{IsRising, IsWellFormed}

-- One page -----------------------------------------------------------------------------------------------------------

-- the reply to a READDIR from a cookie on
abbrev pub page_read : Inodes → Context → (dir cookie count : ℕ) → Reply
page_read inodes context dir cookie count = (procedure inodes context (read_directory (Some dir) cookie count)).1

-- the entries of a page
abbrev pub entries_told : Reply → List Entry
entries_told (listed entries all) = entries
entries_told other = []

-- whether a page says that no entry is left after it
abbrev pub end_told : Reply → Bool
end_told (listed entries all) = all
end_told other = false

-- the cookie to go on from: that of the last entry, or the same one where there is none
abbrev pub cookie_after : (cookie : ℕ) → List Entry → ℕ
cookie_after cookie [] = cookie
cookie_after cookie (entry ∷ entries) = cookie_after entry.cookie entries

-- Pages one after another --------------------------------------------------------------------------------------------

-- their entries, with a count for each page
abbrev pub pages_read : Inodes → Context → (dir cookie : ℕ) → (counts : List ℕ) → List Entry
pages_read inodes context dir cookie [] = []
pages_read inodes context dir cookie (count ∷ counts) =
    let page = entries_told (page_read inodes context dir cookie count) in
    page ++ pages_read inodes context dir (cookie_after cookie page) counts

-- a directory is there, its caller may read it, and the cookies of its entries rise
pub record IsListed (inodes : Inodes) (context : Context) (dir : ℕ) (listing : Listing) : Type 0 where
  pub there : listing_at (get inodes dir) ≡ Some listing
  pub granted : IsTrue (lets may_read context.caller (get inodes dir))
  pub ordinal : ℕ
  pub rising : IsRising first_ordinal listing.entries ordinal

-- a page of so many bytes holds an entry, beside status, end of list and eof
abbrev pub HasRoom : (count : ℕ) → Entry → Type 0
HasRoom count entry = 12 + listed_size entry ≤ min count most_data_bytes

-- The laws -----------------------------------------------------------------------------------------------------------

-- of a well-formed file system each directory that a caller may read is such a one
abbrev pub DirectoriesAreListed : Type 0
DirectoriesAreListed = (files : FileSystem) (context : Context) (dir : ℕ) (listing : Listing) → IsWellFormed files → listing_at (get files.tree dir) ≡ Some listing
    → IsTrue (lets may_read context.caller (get files.tree dir)) → IsListed files.tree context dir listing

-- from any cookie on, READDIR is not refused and changes nothing: its reply is a page
abbrev pub PageIsTold : Type 0
PageIsTold = (inodes : Inodes) (context : Context) (dir : ℕ) (listing : Listing) (cookie count : ℕ) → IsListed inodes context dir listing
    → let reply = page_read inodes context dir cookie count in procedure inodes context (read_directory (Some dir) cookie count) ≡ (inodes, listed (entries_told reply) (end_told reply))

-- whatever the counts are, the pages are a first part of what is listed, and what is left is what stands behind the last
-- cookie: no entry is skipped or told twice
abbrev pub PagesFollowEachOther : Type 0
PagesFollowEachOther = (inodes : Inodes) (context : Context) (dir : ℕ) (listing : Listing) (counts : List ℕ) → IsListed inodes context dir listing
    → pages_read inodes context dir 0 counts ++ listed_behind (cookie_after 0 (pages_read inodes context dir 0 counts)) (all_listed dir listing)
    ≡ all_listed dir listing

-- and the cookies of all that is told rise, from that of `.` on
abbrev pub CookiesRise : Type 0
CookiesRise = (inodes : Inodes) (context : Context) (dir : ℕ) (listing : Listing) (counts : List ℕ) (there : IsListed inodes context dir listing)
    → IsRising 1 (pages_read inodes context dir 0 counts) (there.ordinal + first_ordinal)

-- from any cookie on, a page tells the end just where nothing is left after it
abbrev pub EndIsToldAtTheEnd : Type 0
EndIsToldAtTheEnd = (inodes : Inodes) (context : Context) (dir : ℕ) (listing : Listing) (cookie count : ℕ) → IsListed inodes context dir listing
    → let reply = page_read inodes context dir cookie count in
    (end_told reply ≡ true) ↔ (listed_behind (cookie_after cookie (entries_told reply)) (all_listed dir listing) ≡ [])

-- so whoever reads on until the end is told has read all that is listed, and nobody else has
abbrev pub AllIsReadAtTheEnd : Type 0
AllIsReadAtTheEnd = (inodes : Inodes) (context : Context) (dir : ℕ) (listing : Listing) (counts : List ℕ) (count : ℕ) → IsListed inodes context dir listing
    → let cookie = cookie_after 0 (pages_read inodes context dir 0 counts) in
    (end_told (page_read inodes context dir cookie count) ≡ true) ↔ (pages_read inodes context dir 0 (counts ++ count ∷ []) ≡ all_listed dir listing)

-- from any cookie on, a page with room for the next entry tells it
abbrev pub PageWithRoomIsNotEmpty : Type 0
PageWithRoomIsNotEmpty = (inodes : Inodes) (context : Context) (dir : ℕ) (listing : Listing) (cookie count : ℕ) (next : Entry) (others : List Entry) → IsListed inodes context dir listing
    → listed_behind cookie (all_listed dir listing) ≡ next ∷ others → HasRoom count next
    → entries_told (page_read inodes context dir cookie count) ≢ []

-- as many pages as there are entries, `.` and `..` among them, each with room for any of these, are all that is listed, in its
-- order
abbrev pub EnoughPagesAreAll : Type 0
EnoughPagesAreAll = (inodes : Inodes) (context : Context) (dir : ℕ) (listing : Listing) (counts : List ℕ) → IsListed inodes context dir listing
    → length listing.entries + 2 ≤ length counts
    → All (λ count. All (HasRoom count) (all_listed dir listing)) counts
    → pages_read inodes context dir 0 counts ≡ all_listed dir listing
