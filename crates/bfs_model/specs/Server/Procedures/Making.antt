-- CREATE, MKDIR, SYMLINK and LINK (RFC 1094 sections 2.2.10, 2.2.15, 2.2.14 and 2.2.13), and the new name that each makes.
use Rattle.std.specs.Prelude.{ℕ, Bool, not, List, [], ◌∷◌, ◌++◌, length, replicate, Option, is_some, unwrap_or, Result, Ok, nat_lt}
use Rattle.std.specs.Option.{option_map_or}
use Rattle.std.specs.FinMap.{insert}
use Rattle.bfs_model.specs.Bytes.Items.{◌>>=◌}
use Rattle.bfs_model.specs.Server.Limits.{most_file_bytes}
use Rattle.bfs_model.specs.Server.Tree.{Entry, Listing, file, directory, link, Inode, Inodes, is_directory_body}
use Rattle.bfs_model.specs.Server.Context.{Context}
use Rattle.bfs_model.specs.Server.Access.{may_change_entries, owner_refusals}
use Rattle.bfs_model.specs.Bytes.Attributes.{attributes_of}
use Rattle.bfs_model.specs.Bytes.Arguments.{Settings}
use Rattle.bfs_model.specs.Server.Directories.{is_bad_name, entry_named}
use Rattle.bfs_model.specs.Server.Changes.{permission_bits, with_entry, with_link, new_inode, changed}
use Rattle.bfs_model.specs.Bytes.Replies.{Status, perm, acces, exist, isdir, fbig, nospc, done, found}
use Rattle.bfs_model.specs.Server.Refusals.{Outcome, FoundDirectory, checked, is_spent, is_full, has_most_links, inode_found, directory_found}

-- A new name ---------------------------------------------------------------------------------------------------------

-- a new name comes to a directory that the caller may change, and is a good one that is not there; who owns what it names is among the
-- tests; and there are an ordinal and a place for its entry
abbrev pub new_name_refusals : Context → FoundDirectory → (name : List ℕ) → (of_owners : List (Bool × Status)) → List (Bool × Status)
new_name_refusals context dir name of_owners =
    (not (may_change_entries context.caller dir.inode), acces)
    ∷ (is_bad_name name, perm)
    ∷ (is_some (entry_named name dir.listing.entries), exist)
    ∷ of_owners ++ (is_spent context.ordinal, nospc)
    ∷ (is_full (length dir.listing.entries), nospc)
    ∷ []

-- an entry whose cookie is its call's ordinal
abbrev pub entry_made : Context → (name : List ℕ) (child : ℕ) → Entry
entry_made context name child = record { cookie = context.ordinal; name = name; child = child }

-- with a new entry
abbrev pub with_name : Context → (name : List ℕ) (child : ℕ) → Inode → Inode
with_name context name child = with_entry context.time (entry_made context name child)

-- New inodes ---------------------------------------------------------------------------------------------------------

abbrev pub new_file : Context → Settings → Inode
new_file context settings =
    new_inode context.time context.caller settings (option_map_or permission_bits settings.mode 0o644) 1 (file (replicate (unwrap_or settings.size 0) 0))

abbrev pub file_created : Inodes → Context → Option ℕ → (name : List ℕ) → Settings → Result Outcome Status
file_created inodes context handle name settings = do
  dir ← directory_found inodes handle
  allowed ← checked (new_name_refusals context dir name (owner_refusals context.caller settings) ++ (nat_lt most_file_bytes (unwrap_or settings.size 0), fbig) ∷ [])
  let id = context.ordinal in let inode = new_file context settings in
      Ok (insert (insert inodes dir.id (with_name context name id dir.inode)) id inode, found id (attributes_of id inode))

abbrev pub new_directory : Context → Settings → (parent : ℕ) → Inode
new_directory context settings parent =
    new_inode context.time context.caller settings (option_map_or permission_bits settings.mode 0o755) 2 (directory (record { parent = parent; entries = [] }))

abbrev pub directory_made : Inodes → Context → Option ℕ → (name : List ℕ) → Settings → Result Outcome Status
directory_made inodes context handle name settings = do
  dir ← directory_found inodes handle
  allowed ← checked (new_name_refusals context dir name (owner_refusals context.caller settings) ++ (has_most_links dir.inode.links, nospc) ∷ [])
  let id = context.ordinal in let inode = new_directory context settings dir.id in
      Ok (insert (insert inodes dir.id (with_link context.time (with_name context name id dir.inode))) id inode, found id (attributes_of id inode))

abbrev pub new_symbolic_link : Context → Settings → (target : List ℕ) → Inode
new_symbolic_link context settings target = new_inode context.time context.caller settings 0o777 1 (link target)

abbrev pub symbolic_link_made : Inodes → Context → Option ℕ → (name target : List ℕ) → Settings → Result Outcome Status
symbolic_link_made inodes context handle name target settings = do
  dir ← directory_found inodes handle
  allowed ← checked (new_name_refusals context dir name (owner_refusals context.caller settings))
  let id = context.ordinal in
      Ok (insert (insert inodes dir.id (with_name context name id dir.inode)) id (new_symbolic_link context settings target), done)

-- A new link ---------------------------------------------------------------------------------------------------------

abbrev pub link_made : Inodes → Context → (handle in_directory : Option ℕ) → (name : List ℕ) → Result Outcome Status
link_made inodes context handle in_directory name = do
  linked ← inode_found inodes handle
  plain ← checked ((is_directory_body linked.inode.body, isdir) ∷ [])
  dir ← directory_found inodes in_directory
  allowed ← checked (new_name_refusals context dir name [] ++ (has_most_links linked.inode.links, nospc) ∷ [])
  Ok (changed (insert inodes dir.id (with_name context name linked.id dir.inode)) linked.id (with_link context.time), done)
