-- LOOKUP and READDIR (RFC 1094 sections 2.2.5 and 2.2.17).
use Rattle.std.specs.Prelude.{ℕ, ◌==◌, not, List, [], ◌∷◌, length, Option, Some, option_map, bytes_eq, Result, Ok, if◌then◌else◌}
use Rattle.std.specs.Option.{ok_or}
use Rattle.bfs_model.specs.Bytes.Items.{◌>>=◌}
use Rattle.bfs_model.specs.Server.Tree.{Entry, Listing, Inodes}
use Rattle.bfs_model.specs.Server.Context.{Context}
use Rattle.bfs_model.specs.Server.Access.{may_read, may_search}
use Rattle.bfs_model.specs.Bytes.Attributes.{attributes_of}
use Rattle.bfs_model.specs.Server.Directories.{dot, dot_dot, is_no_name, entry_named, all_listed, listed_behind, page_of}
use Rattle.bfs_model.specs.Bytes.Replies.{Status, perm, noent, acces, Reply, found, listed}
use Rattle.bfs_model.specs.Server.Refusals.{Outcome, checked, inode_found, directory_found}

-- the fileid of a name: `.` is the directory itself, `..` the one above
abbrev pub child_named : (dir : ℕ) → Listing → List ℕ → Option ℕ
child_named dir listing name =
    if bytes_eq name dot then Some dir else (
    if bytes_eq name dot_dot then Some listing.parent else
    option_map (λ entry. entry.child) (entry_named name listing.entries))

abbrev pub looked_up : Inodes → Context → Option ℕ → (name : List ℕ) → Result Outcome Status
looked_up inodes context handle name = do
  dir ← directory_found inodes handle
  allowed ← checked ((not (may_search context.caller dir.inode), acces) ∷ (is_no_name name, perm) ∷ [])
  id ← ok_or (child_named dir.id dir.listing name) noent
  child ← inode_found inodes (Some id)
  Ok (inodes, found child.id (attributes_of child.id child.inode))

-- the first of these entries, and whether they are all
abbrev pub page_listed : (count : ℕ) → List Entry → Reply
page_listed count entries = listed (page_of count entries) (length (page_of count entries) == length entries)

abbrev pub directory_read : Inodes → Context → Option ℕ → (cookie count : ℕ) → Result Outcome Status
directory_read inodes context handle cookie count = do
  dir ← directory_found inodes handle
  allowed ← checked ((not (may_read context.caller dir.inode), acces) ∷ [])
  Ok (inodes, page_listed count (listed_behind cookie (all_listed dir.id dir.listing)))
