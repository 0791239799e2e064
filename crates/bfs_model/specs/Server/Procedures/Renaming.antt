-- RENAME (RFC 1094 section 2.2.12).
use Rattle.std.specs.Prelude.{ℕ, zero, suc, ◌==◌, ◌&&◌, ◌||◌, Bool, true, false, not, List, [], ◌∷◌, length, Option, Some, None, is_some, Result, Ok, if◌then◌else◌}
use Rattle.std.specs.Option.{ok_or, option_map_or}
use Rattle.std.specs.FinMap.{remove, len}
use Rattle.bfs_model.specs.Bytes.Items.{◌>>=◌}
use Rattle.bfs_model.specs.Server.Tree.{Entry, Inodes, is_directory_body, parent_of}
use Rattle.bfs_model.specs.Server.Context.{Context}
use Rattle.bfs_model.specs.Server.Access.{may_change_entries}
use Rattle.bfs_model.specs.Bytes.Replies.{Status, perm, noent, acces, notdir, isdir, nospc, notempty, done}
use Rattle.bfs_model.specs.Server.Directories.{is_bad_name, entry_named}
use Rattle.bfs_model.specs.Server.Changes.{without_entry, with_parent, with_link, with_link_less, with_ctime, changed, link_lost}
use Rattle.bfs_model.specs.Server.Refusals.{Outcome, FoundInode, FoundDirectory, checked, is_spent, is_full, has_most_links, inode_found, directory_found}
use Rattle.bfs_model.specs.Server.Procedures.Making.{with_name}
use Rattle.bfs_model.specs.Server.Procedures.Removing.{has_entries}

-- Below ----------------------------------------------------------------------------------------------------------------

-- whether so many steps from parent to parent, or fewer, lead to another
unfoldable pub is_within : Inodes → (steps id other : ℕ) → Bool
is_within inodes zero id other = id == other
is_within inodes (suc steps) id other = id == other || option_map_or (λ parent. is_within inodes steps parent other) (parent_of inodes id) false

-- whether it is another or below it: no way up is longer than there are inodes
abbrev pub is_below : Inodes → (id other : ℕ) → Bool
is_below inodes id other = is_within inodes (len inodes) id other

-- What is renamed ------------------------------------------------------------------------------------------------------

-- what has the new name already
pub record Replaced : Type 0 where
  pub id : ℕ
  pub is_directory : Bool
  pub has_entries : Bool

-- what is moved, from which directory to which, as far as it says whether that may be
pub record Renaming : Type 0 where
  pub from : ℕ
  pub to : ℕ
  -- of the directory that it comes to
  pub entries : ℕ
  pub links : ℕ
  pub moved : ℕ
  pub is_directory : Bool
  pub replaced : Option Replaced

-- whether a directory comes below another one
abbrev pub moves_directory : Renaming → Bool
moves_directory r = r.is_directory && not (r.from == r.to)

abbrev pub onto_directory : Renaming → Bool
onto_directory r = option_map_or (λ replaced. replaced.is_directory) r.replaced false

abbrev pub onto_entries : Renaming → Bool
onto_entries r = option_map_or (λ replaced. replaced.has_entries) r.replaced false

abbrev pub renaming_refusals : Inodes → Context → Renaming → List (Bool × Status)
renaming_refusals inodes context r =
    (moves_directory r && is_below inodes r.to r.moved, perm)
    ∷ (onto_directory r && not r.is_directory, isdir)
    ∷ (r.is_directory && is_some r.replaced && not (onto_directory r), notdir)
    ∷ (onto_entries r, notempty)
    ∷ (is_spent context.ordinal, nospc)
    ∷ (not (is_some r.replaced) && not (r.from == r.to) && is_full r.entries, nospc)
    ∷ (not (is_some r.replaced) && moves_directory r && has_most_links r.links, nospc)
    ∷ []

-- The steps -------------------------------------------------------------------------------------------------------------

-- what an entry that goes names loses a link as by REMOVE, or goes as by RMDIR
abbrev pub name_lost : Inodes → Context → (dir id : ℕ) → (is_directory : Bool) → Inodes
name_lost inodes context dir id true = changed (remove inodes id) dir (with_link_less context.time)
name_lost inodes context dir id false = link_lost inodes context.time id

-- the entry that has the new name goes
abbrev pub name_cleared : Inodes → Context → (dir : ℕ) → (name : List ℕ) → Option Replaced → Inodes
name_cleared inodes context dir name None = inodes
name_cleared inodes context dir name (Some replaced) = name_lost (changed inodes dir (without_entry context.time name)) context dir replaced.id replaced.is_directory

-- a directory comes below another one: its parent and the links of both are new
abbrev pub moved_below : Inodes → Context → (from to moved : ℕ) → (moves : Bool) → Inodes
moved_below inodes context from to moved false = inodes
moved_below inodes context from to moved true = changed (changed (changed inodes moved (with_parent to)) to (with_link context.time)) from (with_link_less context.time)

-- the inodes up to the new name
abbrev pub unnamed : Inodes → Context → (from_name to_name : List ℕ) → Renaming → Inodes
unnamed inodes context from_name to_name r =
    let taken = changed inodes r.from (without_entry context.time from_name) in
    let cleared = name_cleared taken context r.to to_name r.replaced in
    moved_below cleared context r.from r.to r.moved (moves_directory r)

abbrev pub renamed : Inodes → Context → (from_name to_name : List ℕ) → Renaming → Inodes
renamed inodes context from_name to_name r =
    changed (changed (unnamed inodes context from_name to_name r) r.to (with_name context to_name r.moved)) r.moved (with_ctime context.time)

-- The procedure ---------------------------------------------------------------------------------------------------------

abbrev pub replaced_by : Inodes → Option Entry → Result (Option Replaced) Status
replaced_by inodes None = Ok None
replaced_by inodes (Some entry) = do
  found ← inode_found inodes (Some entry.child)
  Ok (Some (record { id = found.id; is_directory = is_directory_body found.inode.body; has_entries = has_entries found.inode.body }))

abbrev pub renaming_of : (from to : FoundDirectory) → (moved : FoundInode) → Option Replaced → Renaming
renaming_of from to moved replaced =
    record { from = from.id; to = to.id; entries = length to.listing.entries; links = to.inode.links; moved = moved.id; is_directory = is_directory_body moved.inode.body; replaced = replaced }

-- the caller may change both directories, and both names are good
abbrev pub name_refusals : Context → (from to : FoundDirectory) → (from_name to_name : List ℕ) → List (Bool × Status)
name_refusals context from to from_name to_name =
    (not (may_change_entries context.caller from.inode), acces)
    ∷ (not (may_change_entries context.caller to.inode), acces)
    ∷ (is_bad_name from_name, perm)
    ∷ (is_bad_name to_name, perm)
    ∷ []

-- what is renamed: nothing, where both names lead to the same inode
abbrev pub renaming_found : Inodes → Context → (from : Option ℕ) → (from_name : List ℕ) → (to : Option ℕ) → (to_name : List ℕ) → Result (Option Renaming) Status
renaming_found inodes context from_handle from_name to_handle to_name = do
  from ← directory_found inodes from_handle
  to ← directory_found inodes to_handle
  allowed ← checked (name_refusals context from to from_name to_name)
  entry ← ok_or (entry_named from_name from.listing.entries) noent
  moved ← inode_found inodes (Some entry.child)
  let existing = entry_named to_name to.listing.entries in
      if option_map_or (λ other. other.child == moved.id) existing false then Ok None else (do
        replaced ← replaced_by inodes existing
        Ok (Some (renaming_of from to moved replaced)))

abbrev pub if_allowed : Inodes → Context → Option Renaming → Result (Option Renaming) Status
if_allowed inodes context None = Ok None
if_allowed inodes context (Some r) = do
  allowed ← checked (renaming_refusals inodes context r)
  Ok (Some r)

-- what is to be done
abbrev pub renaming_planned : Inodes → Context → (from : Option ℕ) → (from_name : List ℕ) → (to : Option ℕ) → (to_name : List ℕ) → Result (Option Renaming) Status
renaming_planned inodes context from from_name to to_name = do
  found ← renaming_found inodes context from from_name to to_name
  if_allowed inodes context found

abbrev pub entry_renamed : Inodes → Context → (from : Option ℕ) → (from_name : List ℕ) → (to : Option ℕ) → (to_name : List ℕ) → Result Outcome Status
entry_renamed inodes context from from_name to to_name = do
  plan ← renaming_planned inodes context from from_name to to_name
  Ok (option_map_or (renamed inodes context from_name to_name) plan inodes, done)
