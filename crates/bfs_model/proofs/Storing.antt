-- Calls leave inodes that can be stored.
use Rattle.std.proofs.Common.{◌≡◌, ℕ, ◌<◌, Bool, true, false, inl, inr, List, [], ◌∷◌, Option, Some, None, nat_lt, unwrap_or, arith}
use Rattle.std.proofs.lemmas.Bool.{leb-false}
use Rattle.std.specs.FinMap.{insert}
use Rattle.bfs_model.specs.Server.Limits.{most_file_bytes}
use Rattle.bfs_model.specs.Server.Tree.{Inode, Inodes, spent_ordinal}
use Rattle.bfs_model.specs.Server.Context.{Context}
use Rattle.bfs_model.specs.Server.Access.{owner_refusals}
use Rattle.bfs_model.specs.Bytes.Arguments.{Call, set_attributes, write, create, remove as remove_file, rename, make_link, make_symbolic_link, make_directory, remove_directory}
use Rattle.bfs_model.specs.Bytes.Replies.{fbig, nospc}
use Rattle.bfs_model.specs.Server.Changes.{without_entry, with_parent, with_link, with_link_less, with_ctime, changed, link_lost}
use Rattle.bfs_model.specs.Server.Refusals.{is_spent, has_most_links}
use Rattle.bfs_model.specs.Server.Procedures.Making.{entry_made, with_name}
use Rattle.bfs_model.specs.Server.Procedures.Renaming.{Renaming, Replaced, moves_directory, renaming_refusals, renaming_of, name_lost, name_cleared, moved_below, renamed}
use Rattle.bfs_model.specs.Server.Stored.{IsWord, AreBytes, IsStorable, AreStorable, ContextIsStorable, CallIsStorable}
use Rattle.bfs_model.specs.Laws.Stored.{CallsKeepInodesStorable}
use Rattle.bfs_model.proofs.Found.{fails, inode_at, directory_at, file_at}
use Rattle.bfs_model.proofs.Attempts.{IfChanged, kept}
use Rattle.bfs_model.proofs.WellFormed.NewNames.{new_name}
use Rattle.bfs_model.proofs.WellFormed.Each.{each_inserted, each_removed, each_changed, each_link_lost}
use Rattle.bfs_model.proofs.StoredChanges.{zeros_are_bytes, mode_stored, linked_stored, bytes_stored, entry_stored, no_entry_stored, parent_stored, settings_stored, new_stored}

-- an ordinal that is not spent
unspent : (ordinal : ℕ) → is_spent ordinal ≡ false → IsWord ordinal
unspent ordinal left = let below : ordinal < spent_ordinal = leb-false spent_ordinal ordinal left in omega arith

module _ (c : Context) (storable : ContextIsStorable c) where
  changed_stored : (m : Inodes) → AreStorable m → (id : ℕ) (change : Inode → Inode) → ((inode : Inode) → IsStorable id inode → IsStorable id (change inode)) → AreStorable (changed m id change)
  changed_stored m are id change keeps = each_changed IsStorable m are id change (λ inode there. keeps inode (are id inode there))

  lost_stored : (m : Inodes) → AreStorable m → (id : ℕ) → AreStorable (link_lost m c.time id)
  lost_stored m are id = each_link_lost IsStorable m are c.time id (λ inode there many. linked_stored c.time storable.time id inode (are id inode there) _)

  name_stored : (name : List ℕ) (child id : ℕ) (inode : Inode) → IsWord c.ordinal → AreBytes name → IsWord child → IsStorable id inode → IsStorable id (with_name c name child inode)
  name_stored name child id inode is_ordinal named is_child is = entry_stored c.time storable.time id inode is (entry_made c name child) (record { cookie = is_ordinal; name = named; child = is_child })

  -- RENAME -----------------------------------------------------------------------------------------------------------------

  name_lost_stored : (m : Inodes) → AreStorable m → (dir id : ℕ) (is_directory : Bool) → AreStorable (name_lost m c dir id is_directory)
  name_lost_stored m are dir id true = changed_stored _ (each_removed IsStorable m are id) dir (with_link_less c.time) (λ inode is. linked_stored c.time storable.time dir inode is _)
  name_lost_stored m are dir id false = lost_stored m are id

  cleared_stored : (m : Inodes) → AreStorable m → (dir : ℕ) (name : List ℕ) (replaced : Option Replaced) → AreStorable (name_cleared m c dir name replaced)
  cleared_stored m are dir name None = are
  cleared_stored m are dir name (Some replaced) = name_lost_stored _ (changed_stored m are dir (without_entry c.time name) (λ inode is. no_entry_stored c.time storable.time dir inode is name)) dir replaced.id replaced.is_directory

  below_stored : (m : Inodes) → AreStorable m → (from to moved : ℕ) (moves : Bool) → IsWord to → AreStorable (moved_below m c from to moved moves)
  below_stored m are from to moved false is = are
  below_stored m are from to moved true is =
      let below = changed_stored m are moved (with_parent to) (λ inode held. parent_stored c.time storable.time moved inode held to is) in
      changed_stored _ (changed_stored _ below to (with_link c.time) (λ inode held. linked_stored c.time storable.time to inode held _)) from (with_link_less c.time) (λ inode held. linked_stored c.time storable.time from inode held _)

  renamed_stored : (m : Inodes) → AreStorable m → (from_name to_name : List ℕ) (r : Renaming) → IsWord c.ordinal → AreBytes to_name → IsWord r.to → IsWord r.moved → AreStorable (renamed m c from_name to_name r)
  renamed_stored m are from_name to_name r is_ordinal named is_to is_moved =
      let taken = changed_stored m are r.from (without_entry c.time from_name) (λ inode is. no_entry_stored c.time storable.time r.from inode is from_name) in
      let below = below_stored _ (cleared_stored _ taken r.to to_name r.replaced) r.from r.to r.moved (moves_directory r) is_to in
      changed_stored _ (changed_stored _ below r.to (with_name c to_name r.moved) (λ inode is. name_stored to_name r.moved r.to inode is_ordinal named is_moved is)) r.moved (with_ctime c.time)
      (λ inode is. linked_stored c.time storable.time r.moved inode is inode.links)

  -- Every call ---------------------------------------------------------------------------------------------------------------

  module _ (m : Inodes) (are : AreStorable m) where
    -- a directory is changed, and an inode made
    made_stored : (id : ℕ) (after : Inode) (new : Inode) → IsStorable id after → IsStorable c.ordinal new → AreStorable (insert (insert m id after) c.ordinal new)
    made_stored id after new is made = each_inserted IsStorable (insert m id after) (each_inserted IsStorable m are id after is) c.ordinal new made

    call_stored : (call : Call) → CallIsStorable call → IfChanged m c AreStorable call
    call_stored (set_attributes handle settings) h = λ x allowed found passed.
        each_inserted IsStorable m are x.id _ (settings_stored c.time storable.time x.id x.inode (are x.id x.inode (inode_at m handle x found).there) settings h.1)
    call_stored (write handle offset written) h = λ x small found passed.
        each_inserted IsStorable m are x.id _ (bytes_stored c.time storable.time x.id x.inode (are x.id x.inode (file_at m handle x found).there) offset written h.2)
    call_stored (create handle name settings) h = λ dir allowed found passed.
        let is : IsWord c.ordinal = unspent c.ordinal (new_name c dir name (owner_refusals c.caller settings) ((nat_lt most_file_bytes (unwrap_or settings.size 0), fbig) ∷ []) allowed passed).left in
        made_stored dir.id _ _ (name_stored name c.ordinal dir.id dir.inode is h.1 is (are dir.id dir.inode (directory_at m handle dir found).there))
        (new_stored c storable c.ordinal is settings h.2 _ 1 _ (mode_stored settings.mode 0o644 (omega arith)) (zeros_are_bytes (unwrap_or settings.size 0)))
    call_stored (remove_file handle name) h = λ dir entry child plain at passed.
        lost_stored _ (each_inserted IsStorable m are dir.id _ (no_entry_stored c.time storable.time dir.id dir.inode (are dir.id dir.inode at.in_it.there) name)) child.id
    call_stored (rename from from_name to to_name) h = λ a b entry moved at replaced allowed onto passed.
        let r : Renaming = renaming_of a b moved replaced in
        let left : is_spent c.ordinal ≡ false = fails (is_spent c.ordinal) (renaming_refusals m c r) allowed passed (search (inl, inr) depth 9) in
        renamed_stored m are from_name to_name r (unspent c.ordinal left) h.3 (are b.id b.inode at.to_at.there).fileid (are moved.id moved.inode at.there).fileid
    call_stored (make_link handle in_directory name) h = λ x plain dir allowed found no_directory dir_is passed.
        let is : IsWord c.ordinal = unspent c.ordinal (new_name c dir name [] ((has_most_links x.inode.links, nospc) ∷ []) allowed passed).left in
        let linked = are x.id x.inode (inode_at m handle x found).there in
        changed_stored _ (each_inserted IsStorable m are dir.id _ (name_stored name x.id dir.id dir.inode is h.2 linked.fileid (are dir.id dir.inode (directory_at m in_directory dir dir_is).there))) x.id (with_link c.time)
        (λ inode held. linked_stored c.time storable.time x.id inode held _)
    call_stored (make_symbolic_link handle name target settings) h = λ dir allowed found passed.
        let is : IsWord c.ordinal = unspent c.ordinal (new_name c dir name (owner_refusals c.caller settings) [] allowed passed).left in
        made_stored dir.id _ _ (name_stored name c.ordinal dir.id dir.inode is h.1 is (are dir.id dir.inode (directory_at m handle dir found).there)) (new_stored c storable c.ordinal is settings h.3 0o777 1 _ (omega arith) h.2)
    call_stored (make_directory handle name settings) h = λ dir allowed found passed.
        let is : IsWord c.ordinal = unspent c.ordinal (new_name c dir name (owner_refusals c.caller settings) ((has_most_links dir.inode.links, nospc) ∷ []) allowed passed).left in
        let held = are dir.id dir.inode (directory_at m handle dir found).there in
        made_stored dir.id _ _ (linked_stored c.time storable.time dir.id _ (name_stored name c.ordinal dir.id dir.inode is h.1 is held) _)
        (new_stored c storable c.ordinal is settings h.2 _ 2 _ (mode_stored settings.mode 0o755 (omega arith)) (held.fileid, tt))
    call_stored (remove_directory handle name) h = λ dir entry child empty at passed.
        changed_stored _ (each_removed IsStorable _ (each_inserted IsStorable m are dir.id _ (no_entry_stored c.time storable.time dir.id dir.inode (are dir.id dir.inode at.in_it.there) name)) child.id) dir.id (with_link_less c.time)
        (λ inode held. linked_stored c.time storable.time dir.id inode held _)
    call_stored call h = tt

pub calls_keep_storable : CallsKeepInodesStorable
calls_keep_storable m c call storable h are = kept m c AreStorable are call (call_stored c storable m are call h)
