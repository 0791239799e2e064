-- Why a procedure is not done: what a file handle does not lead to, and tests in their order.
use Rattle.std.specs.Prelude.{ℕ, Bool, List, [], ◌∷◌, Option, Result, Ok, Err, ⊤, nat_le, if◌then◌else◌}
use Rattle.std.specs.Option.{ok_or}
use Rattle.std.specs.FinMap.{get}
use Rattle.bfs_model.specs.Bytes.Items.{◌>>=◌}
use Rattle.bfs_model.specs.Server.Limits.{most_entries, most_links}
use Rattle.bfs_model.specs.Server.Tree.{Listing, Body, file, directory, link, Inode, Inodes, listing_in, spent_ordinal}
use Rattle.bfs_model.specs.Bytes.Replies.{Status, perm, notdir, isdir, stale, Reply}

-- the inodes after a procedure that is done, and its reply
abbrev pub Outcome : Type 0
Outcome = Inodes × Reply

-- Tests in their order -----------------------------------------------------------------------------------------------

-- passed where no test holds; else the status of the first that does
abbrev pub checked : List (Bool × Status) → Result ⊤ Status
checked [] = Ok tt
checked (row ∷ rows) = if row.0 then Err row.1 else checked rows

-- no fileid and no cookie is left
abbrev pub is_spent : (ordinal : ℕ) → Bool
is_spent ordinal = nat_le spent_ordinal ordinal

-- a directory has no place for a further entry
abbrev pub is_full : (entries : ℕ) → Bool
is_full entries = nat_le most_entries entries

-- an inode can have no further link
abbrev pub has_most_links : (links : ℕ) → Bool
has_most_links links = nat_le most_links links

-- What a handle leads to ---------------------------------------------------------------------------------------------

pub record FoundInode : Type 0 where
  pub id : ℕ
  pub inode : Inode

pub record FoundDirectory : Type 0 where
  pub id : ℕ
  pub inode : Inode
  pub listing : Listing

pub record FoundFile : Type 0 where
  pub id : ℕ
  pub inode : Inode
  pub bytes : List ℕ

-- a handle that is not one of ours, or leads to no inode, is stale
abbrev pub inode_found : Inodes → Option ℕ → Result FoundInode Status
inode_found inodes handle = do
  id ← ok_or handle stale
  inode ← ok_or (get inodes id) stale
  Ok (record { id = id; inode = inode })

abbrev pub directory_found : Inodes → Option ℕ → Result FoundDirectory Status
directory_found inodes handle = do
  found ← inode_found inodes handle
  listing ← ok_or (listing_in found.inode.body) notdir
  Ok (record { id = found.id; inode = found.inode; listing = listing })

-- the bytes of a file, or why it is none
abbrev pub bytes_in : Body → Result (List ℕ) Status
bytes_in (file bytes) = Ok bytes
bytes_in (directory listing) = Err isdir
bytes_in (link path) = Err perm

abbrev pub file_found : Inodes → Option ℕ → Result FoundFile Status
file_found inodes handle = do
  found ← inode_found inodes handle
  bytes ← bytes_in found.inode.body
  Ok (record { id = found.id; inode = found.inode; bytes = bytes })
