-- What RENAME's steps rest on.
use Rattle.std.specs.Prelude.{◌≡◌, ℕ, ◌<◌, ◌≤◌, IsTrue, List, length, Option, Some, None, Result, Ok}
use Rattle.std.specs.FinMap.{get}
use Rattle.std.specs.Option.{ForSome}
use Rattle.bfs_model.specs.Bytes.Items.{◌>>=◌}
use Rattle.bfs_model.specs.Server.Changes.{changed, with_parent, without_entry}
use Rattle.bfs_model.specs.Server.Context.{Context}
use Rattle.bfs_model.specs.Server.Limits.{most_entries, most_links}
use Rattle.bfs_model.specs.Server.Procedures.Removing.{has_entries}
use Rattle.bfs_model.specs.Server.Procedures.Renaming.{Renaming, Replaced, moves_directory, name_cleared, unnamed}
use Rattle.bfs_model.specs.Server.Refusals.{FoundDirectory, directory_found, inode_found}
use Rattle.bfs_model.specs.Bytes.Replies as replies
use Rattle.bfs_model.specs.Server.Tree.{Inodes, is_directory_body, spent_ordinal}
use Rattle.bfs_model.specs.Server.WellFormed.{NamesDiffer}
use Rattle.bfs_model.proofs.Public.{HasRoomFor}
use Rattle.bfs_tree.specs.Reach.{Reach}

-- what a fileid, if there is one, leads to as what is replaced
abbrev pub replaced_at : Inodes → Option ℕ → Result (Option Replaced) replies.Status
replaced_at inodes None = Ok None
replaced_at inodes (Some id) = do
  found ← inode_found inodes (Some id)
  Ok (Some (record { id = found.id; is_directory = is_directory_body found.inode.body; has_entries = has_entries found.inode.body }))

-- where something is planned, the directory that it comes to keeps the limits of its kind
pub record IsWithin (to : FoundDirectory) : Type 0 where
  pub few : length to.listing.entries ≤ most_entries
  pub differ : NamesDiffer to.listing.entries
  pub links : to.inode.links ≤ most_links

abbrev pub KeepsLimits : {X E : Type 0} → Inodes → Result (Option X) E → (to : Option ℕ) → Type 0
KeepsLimits inodes (Ok (Some plan)) to = (found : FoundDirectory) → directory_found inodes to ≡ Ok found → IsWithin found
KeepsLimits inodes other to = Unit {0}

-- a store can carry out a renaming: it may change all inodes that change, and there is room at each step
pub record CanCarryOut (inodes : Inodes) (reach : Reach) (context : Context) (from_name to_name : List ℕ) (r : Renaming) : Type 0 where
  pub from : IsTrue (reach.owned r.from)
  pub to : IsTrue (reach.owned r.to)
  pub moved : IsTrue (reach.owned r.moved)
  pub replaced : ForSome r.replaced (λ replaced. IsTrue (reach.owned replaced.id))
  pub unspent : context.ordinal < spent_ordinal
  pub few : IsTrue (moves_directory r)
      → ForSome (get (changed (name_cleared (changed inodes r.from (without_entry context.time from_name)) context r.to to_name r.replaced) r.moved (with_parent r.to)) r.to) (λ inode. inode.links < most_links)
  pub room : ForSome (get (unnamed inodes context from_name to_name r) r.to) (HasRoomFor context.ordinal to_name)
