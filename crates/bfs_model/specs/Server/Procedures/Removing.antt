-- REMOVE and RMDIR (RFC 1094 sections 2.2.11 and 2.2.16).
use Rattle.std.specs.Prelude.{ℕ, Bool, false, not, List, [], ◌∷◌, length, Option, Some, Result, Ok, nat_le}
use Rattle.std.specs.Option.{ok_or}
use Rattle.std.specs.FinMap.{insert, remove}
use Rattle.bfs_model.specs.Bytes.Items.{◌>>=◌}
use Rattle.bfs_model.specs.Server.Tree.{Body, file, directory, link, Inodes, is_directory_body}
use Rattle.bfs_model.specs.Server.Context.{Context}
use Rattle.bfs_model.specs.Server.Access.{may_change_entries}
use Rattle.bfs_model.specs.Server.Directories.{is_bad_name, entry_named}
use Rattle.bfs_model.specs.Server.Changes.{without_entry, with_link_less, changed, link_lost}
use Rattle.bfs_model.specs.Bytes.Replies.{Status, perm, noent, acces, notdir, isdir, notempty, done}
use Rattle.bfs_model.specs.Server.Refusals.{Outcome, FoundInode, FoundDirectory, checked, inode_found, directory_found}

-- what a name that may go leads to, in the directory that a handle leads to and the caller may change
abbrev pub child_found : Inodes → Context → Option ℕ → (name : List ℕ) → Result (FoundDirectory × FoundInode) Status
child_found inodes context handle name = do
  dir ← directory_found inodes handle
  allowed ← checked ((not (may_change_entries context.caller dir.inode), acces) ∷ (is_bad_name name, perm) ∷ [])
  entry ← ok_or (entry_named name dir.listing.entries) noent
  child ← inode_found inodes (Some entry.child)
  Ok (dir, child)

abbrev pub file_removed : Inodes → Context → Option ℕ → (name : List ℕ) → Result Outcome Status
file_removed inodes context handle name = do
  (dir, child) ← child_found inodes context handle name
  plain ← checked ((is_directory_body child.inode.body, isdir) ∷ [])
  Ok (link_lost (insert inodes dir.id (without_entry context.time name dir.inode)) context.time child.id, done)

-- whether it is a directory that is not empty
abbrev pub has_entries : Body → Bool
has_entries (file bytes) = false
has_entries (directory listing) = nat_le 1 (length listing.entries)
has_entries (link target) = false

abbrev pub directory_removed : Inodes → Context → Option ℕ → (name : List ℕ) → Result Outcome Status
directory_removed inodes context handle name = do
  (dir, child) ← child_found inodes context handle name
  empty ← checked ((not (is_directory_body child.inode.body), notdir) ∷ (has_entries child.inode.body, notempty) ∷ [])
  Ok (changed (remove (insert inodes dir.id (without_entry context.time name dir.inode)) child.id) dir.id (with_link_less context.time), done)
