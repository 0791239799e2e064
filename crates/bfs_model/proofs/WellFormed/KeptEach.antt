-- What is kept of each inode, whatever is called under a fresh ordinal: its limits, and what else each change keeps.
use Rattle.std.proofs.Common.{◌≡◌, ℕ, ◌+◌, ◌<◌, ◌≤◌, Bool, true, false, not, List, [], ◌∷◌, ◌++◌, length, Option, Some, None, Ok, inl, inr, ◌⊎◌, if◌then◌else◌, IsTrue, IsFalse, refl, sym, ap, subst, ◌∙◌, arith}
use Rattle.std.specs.Bool.{⊤}
use Rattle.std.specs.Prelude.{nat_lt, unwrap_or}
use Rattle.std.specs.FinMap.{get, insert, remove as removed}
use Rattle.std.proofs.lemmas.Bool.{both_ways, leb-false, ltb-false}
use Rattle.std.proofs.lemmas.List.{length-replicate}
use Rattle.std.proofs.lemmas.Option.{same_Some}
use Rattle.bfs_model.specs.Server.Limits.{most_file_bytes, most_name_bytes, most_links}
use Rattle.bfs_model.specs.Server.Tree.{Time, Entry, Body, file, directory, link, Inode, Inodes, root_id, is_directory_body, entries_in, parent_in}
use Rattle.bfs_model.specs.Server.Context.{Context}
use Rattle.bfs_model.specs.Server.Access.{may_write_file, owner_refusals}
use Rattle.bfs_model.specs.Bytes.Arguments.{Call, null, get_attributes, set_attributes, root, look_up, read_link, read, write_cache, write, create, remove, rename, make_link, make_symbolic_link, make_directory, remove_directory, read_directory, file_system_status}
use Rattle.bfs_model.specs.Bytes.Replies.{Status, acces, fbig, nospc}
use Rattle.bfs_model.specs.Server.Directories.{is_bad_name, entry_named}
use Rattle.bfs_model.specs.Server.Changes.{with_settings, with_size, resized_body, with_bytes, overwritten_body, without_entry, with_parent, with_link, with_link_less, with_ctime, changed}
use Rattle.bfs_model.specs.Server.Refusals.{FoundInode, FoundDirectory, checked, is_spent, has_most_links}
use Rattle.bfs_model.specs.Server.Procedures.{procedure}
use Rattle.bfs_model.specs.Server.Procedures.Making.{new_name_refusals, with_name, new_file, new_directory, new_symbolic_link}
use Rattle.bfs_model.specs.Server.Procedures.Renaming.{Replaced, Renaming, moves_directory, renaming_refusals, name_lost, name_cleared, moved_below, unnamed, renamed, renaming_of}
use Rattle.bfs_model.specs.Server.Footprints.{known, whole, ids_in, new_ids, child_at, moves_a_directory, IsNewAt, IsNewIn, IsFreshFor, IsFresh, footprint}
use Rattle.bfs_model.specs.Server.Short.{IsShort}
use Rattle.bfs_model.specs.Server.WellFormed.{times, named, IsTree, BodyIsLimited, IsLimited}
use Rattle.bfs_model.proofs.Found.{fails, inode_at, directory_at, file_at, IsDirectoryAt, IsRenamed, IsOnto}
use Rattle.bfs_model.proofs.Granted.{lets_both}
use Rattle.bfs_model.proofs.Attempts.{IfChanged, kept}
use Rattle.bfs_model.proofs.WellFormed.Entries.{names_differ}
use Rattle.bfs_model.proofs.WellFormed.Steps.{kind_listed, changed_there}
use Rattle.bfs_model.proofs.WellFormed.Named.{named_in_one, found_named}
use Rattle.bfs_model.proofs.WellFormed.Each.{Each, at_found, at_inserted, each_inserted, each_removed, each_changed, each_link_lost}
use Rattle.bfs_model.proofs.WellFormed.RenamingRoom.{HasRoomIn, HasRoomFor, CanRename, room_made, link_free}
use Rattle.bfs_model.proofs.WellFormed.NewNames.{IsNewName, new_name, behind, front_of, back_of, led_of, new_where_left, cookies_below}
use Rattle.bfs_model.proofs.WellFormed.Limits.{AreLimited, settings_limited, bytes_limited, entry_limited, without_limited, parent_limited, link_limited, link_less_limited, ctime_limited}

-- what each change of an inode keeps; a directory that comes below another one is not the root
pub record IsKeptBy (c : Context) (P : ℕ → Inode → Type 0) : Type 0 where
  pub alike : (id : ℕ) (x y : Inode) → (entries_in y.body ≡ entries_in x.body) × (parent_in y.body ≡ parent_in x.body) → P id x → P id y
  pub entered : is_spent c.ordinal ≡ false → (id : ℕ) (name : List ℕ) (child : ℕ) (x : Inode) → P id x → P id (with_name c name child x)
  pub without : (id : ℕ) (name : List ℕ) (x : Inode) → P id x → P id (without_entry c.time name x)
  pub hung : (id parent : ℕ) (x : Inode) → (id ≡ root_id → ⊥) → P id x → P id (with_parent parent x)
  pub made : is_spent c.ordinal ≡ false → (x : Inode) → entries_in x.body ≡ [] → P c.ordinal x

-- .. and that it is within its limits, and a directory where it was one
pub record IsKept (P : ℕ → Inode → Type 0) (IsFolder : ℕ → Type 0) (id : ℕ) (x : Inode) : Type 0 where
  pub limited : IsLimited x
  pub own : P id x
  pub folder : IsFolder id → IsTrue (is_directory_body x.body)

-- Of one inode -------------------------------------------------------------------------------------------------------------

same_resized : (size : ℕ) (body : Body) → (entries_in (resized_body size body) ≡ entries_in body) × (parent_in (resized_body size body) ≡ parent_in body)
same_resized size (file bytes) = (refl, refl)
same_resized size (directory listing) = (refl, refl)
same_resized size (link path) = (refl, refl)

same_set : (now : Time) (size : Option ℕ) (x : Inode) → (entries_in (with_size now size x).body ≡ entries_in x.body) × (parent_in (with_size now size x).body ≡ parent_in x.body)
same_set now None x = (refl, refl)
same_set now (Some size) x = same_resized size x.body

same_written : (offset : ℕ) (written : List ℕ) (body : Body) → (entries_in (overwritten_body offset written body) ≡ entries_in body) × (parent_in (overwritten_body offset written body) ≡ parent_in body)
same_written offset written (file bytes) = (refl, refl)
same_written offset written (directory listing) = (refl, refl)
same_written offset written (link path) = (refl, refl)

-- The steps ----------------------------------------------------------------------------------------------------------------

module _ (c : Context) (P : ℕ → Inode → Type 0) (by : IsKeptBy c P) (IsFolder : ℕ → Type 0) where
  abbrev Kept : Inodes → Type 0
  Kept n = Each (IsKept P IsFolder) n

  step : (n : Inodes) → Kept n → (k : ℕ) (f : Inode → Inode) → ((x : Inode) → get n k ≡ Some x → IsLimited x → IsLimited (f x)) → ((x : Inode) → P k x → P k (f x))
      → ((x : Inode) → is_directory_body (f x).body ≡ is_directory_body x.body) → Kept (changed n k f)
  step n each k f limits own kind = each_changed (IsKept P IsFolder) n each k f (λ x there. let h = each k x there in record { limited = limits x there h.limited; own = own x h.own; folder = λ one. kind x ∙ h.folder one })

  linked : (n : Inodes) → Kept n → (k : ℕ) → ((x : Inode) → get n k ≡ Some x → x.links < most_links) → Kept (changed n k (with_link c.time))
  linked n each k few = step n each k (with_link c.time) (λ x there h. link_limited c.time x (few x there) h) (λ x own. by.alike k x (with_link c.time x) (refl, refl) own) (λ x. refl)

  -- a directory has no least number of links
  unlinked : (n : Inodes) → Kept n → (k : ℕ) → IsFolder k → Kept (changed n k (with_link_less c.time))
  unlinked n each k one = step n each k (with_link_less c.time) (λ x there h. link_less_limited c.time x (λ file. absurd (both_ways (is_directory_body x.body) file ((each k x there).folder one))) h)
      (λ x own. by.alike k x (with_link_less c.time x) (refl, refl) own) (λ x. refl)

  without : (n : Inodes) → Kept n → (k : ℕ) (name : List ℕ) → Kept (changed n k (without_entry c.time name))
  without n each k name = step n each k (without_entry c.time name) (λ x there h. without_limited c.time name x h) (λ x own. by.without k name x own) (λ x. kind_listed _ x.body)

  entered : (n : Inodes) → Kept n → (k : ℕ) (name : List ℕ) (child : ℕ) → is_spent c.ordinal ≡ false → IsFalse (is_bad_name name) → length name ≤ most_name_bytes
      → ((x : Inode) → get n k ≡ Some x → HasRoomFor c.ordinal name x) → Kept (changed n k (with_name c name child))
  entered n each k name child left good short room = step n each k (with_name c name child) (λ x there h. entry_limited c name child x left good short (room x there) h) (λ x own. by.entered left k name child x own) (λ x. kind_listed _ x.body)

  lost : (n : Inodes) → Kept n → (dir id : ℕ) → IsFolder dir → (is_directory : Bool) → Kept (name_lost n c dir id is_directory)
  lost n each dir id one true = unlinked (removed n id) (each_removed (IsKept P IsFolder) n each id) dir one
  lost n each dir id one false = each_link_lost (IsKept P IsFolder) n each c.time id (λ x there many. let h = each id x there in
      record { limited = link_less_limited c.time x (λ is. many) h.limited; own = by.alike id x (with_link_less c.time x) (refl, refl) h.own; folder = h.folder })

  cleared : (n : Inodes) → Kept n → (dir : ℕ) (name : List ℕ) → IsFolder dir → (replaced : Option Replaced) → Kept (name_cleared n c dir name replaced)
  cleared n each dir name one None = each
  cleared n each dir name one (Some replaced) = lost (changed n dir (without_entry c.time name)) (without n each dir name) dir replaced.id one replaced.is_directory

  -- an inode that is made is no directory of before
  made : (n : Inodes) → Kept n → (x : Inode) → is_spent c.ordinal ≡ false → IsLimited x → entries_in x.body ≡ [] → (IsFolder c.ordinal → ⊥) → Kept (insert n c.ordinal x)
  made n each x left limited bare none = each_inserted (IsKept P IsFolder) n each c.ordinal x (record { limited = limited; own = by.made left x bare; folder = λ one. absurd (none one) })

-- The calls ----------------------------------------------------------------------------------------------------------------

module _ (m : Inodes) (c : Context) (P : ℕ → Inode → Type 0) (by : IsKeptBy c P) (limited : AreLimited m) (own : Each P m) where
  abbrev AreKept : Inodes → Type 0
  AreKept after = AreLimited after × Each P after

  both : (IsFolder : ℕ → Type 0) (n : Inodes) → Each (IsKept P IsFolder) n → AreKept n
  both IsFolder n each = (λ id x there. (each id x there).limited, λ id x there. (each id x there).own)

  start : (IsFolder : ℕ → Type 0) → ((id : ℕ) (x : Inode) → get m id ≡ Some x → IsFolder id → IsTrue (is_directory_body x.body)) → Each (IsKept P IsFolder) m
  start IsFolder folders id x there = record { limited = limited id x there; own = own id x there; folder = folders id x there }

  is_folder : (handle : Option ℕ) (dir : FoundDirectory) → IsDirectoryAt m handle dir → (id : ℕ) (x : Inode) → get m id ≡ Some x → id ≡ dir.id → IsTrue (is_directory_body x.body)
  is_folder handle dir at = at_found (λ x. IsTrue (is_directory_body x.body)) m dir.id dir.inode at.there (ap is_directory_body at.holds)

  abbrev IsNone : ℕ → Type 0
  IsNone id = ⊥

  abbrev IsNew : ℕ → Type 0
  IsNew = IsNewAt m c.ordinal

  all_kept : Each (IsKept P IsNone) m
  all_kept = start IsNone (λ id x there none. absurd none)

  -- the directory with the new entry
  module _ (handle : Option ℕ) (name : List ℕ) (dir : FoundDirectory) (at : IsDirectoryAt m handle dir) (fresh : IsNewName c dir.listing name → IsNew dir.id) (short : length name ≤ most_name_bytes) where
    room : IsNewName c dir.listing name → (x : Inode) → get m dir.id ≡ Some x → HasRoomFor c.ordinal name x
    room new x there =
        let is : directory dir.listing ≡ x.body = sym at.holds ∙ ap (λ (y : Inode). y.body) (same_Some dir.inode x (sym at.there ∙ there)) in
        subst (λ (body : Body). HasRoomIn c.ordinal name (entries_in body)) is (record { fewer = new.fewer; free = new.free; below = cookies_below m c.ordinal handle dir at (fresh new) })

    named_in : (child : ℕ) → IsNewName c dir.listing name → Each (IsKept P IsNone) (insert m dir.id (with_name c name child dir.inode))
    named_in child new = subst (Each (IsKept P IsNone)) (changed_there m dir.id (with_name c name child) dir.inode at.there)
        (entered c P by IsNone m all_kept dir.id name child new.left new.good short (room new))

    made_in : (x : Inode) → IsNewName c dir.listing name → IsLimited x → entries_in x.body ≡ [] → AreKept (insert (insert m dir.id (with_name c name c.ordinal dir.inode)) c.ordinal x)
    made_in x new limits bare = both IsNone _ (made c P by IsNone _ (named_in c.ordinal new) x new.left limits bare (λ none. none))

    directory_made_in : (x : Inode) → IsNewName c dir.listing name → dir.inode.links < most_links → IsLimited x → entries_in x.body ≡ []
        → AreKept (insert (insert m dir.id (with_link c.time (with_name c name c.ordinal dir.inode))) c.ordinal x)
    directory_made_in x new few limits bare =
        let entry = with_name c name c.ordinal dir.inode in
        let more = each_inserted (IsKept P IsNone) m all_kept dir.id (with_link c.time entry) (record {
          limited = link_limited c.time entry few (entry_limited c name c.ordinal dir.inode new.left new.good short (room new dir.inode at.there) (limited dir.id dir.inode at.there));
          own = by.alike dir.id entry (with_link c.time entry) (refl, refl) (by.entered new.left dir.id name c.ordinal dir.inode (own dir.id dir.inode at.there));
          folder = λ none. absurd none;
        }) in
        both IsNone _ (made c P by IsNone _ more x new.left limits bare (λ none. none))

  name_out : (handle : Option ℕ) (name : List ℕ) (dir : FoundDirectory) (child : ℕ) → IsDirectoryAt m handle dir → (is_directory : Bool) → AreKept (name_lost (insert m dir.id (without_entry c.time name dir.inode)) c dir.id child is_directory)
  name_out handle name dir child at is_directory =
      let IsDir : ℕ → Type 0 = λ id. id ≡ dir.id in
      both IsDir _ (lost c P by IsDir (insert m dir.id (without_entry c.time name dir.inode))
      (subst (Each (IsKept P IsDir)) (changed_there m dir.id (without_entry c.time name) dir.inode at.there) (without c P by IsDir m (start IsDir (is_folder handle dir at)) dir.id name)) dir.id child refl is_directory)

  -- RENAME
  can_rename : (to : Option ℕ) (b : FoundDirectory) → IsDirectoryAt m to b → IsNew b.id → CanRename c.ordinal b
  can_rename to b at new =
      let h = limited b.id b.inode at.there in
      let body : BodyIsLimited b.inode.links (directory b.listing) = subst (BodyIsLimited b.inode.links) at.holds h.body in
      record { few = body.0; differ = names_differ b.listing.entries body.2; below = cookies_below m c.ordinal to b at new; links = h.links }

  -- what an entry names is not the root
  unrooted : IsTree m → (from : Option ℕ) (name : List ℕ) (dir : FoundDirectory) (entry : Entry) → IsDirectoryAt m from dir → entry_named name dir.listing.entries ≡ Some entry → entry.child ≡ root_id → ⊥
  unrooted tree from name dir entry at found is =
      let one : 1 ≤ times entry.child dir.listing.entries = found_named name dir.listing.entries entry found in
      let most : times root_id (entries_in dir.inode.body) ≤ named m root_id = named_in_one m dir.id dir.inode at.there root_id in
      let held : times root_id (entries_in dir.inode.body) ≡ times root_id dir.listing.entries = ap (λ (body : Body). times root_id (entries_in body)) at.holds in
      let none : named m root_id ≡ 0 = tree.root_unnamed in
      let same : times entry.child dir.listing.entries ≡ times root_id dir.listing.entries = ap (λ id. times id dir.listing.entries) is in
      omega arith

  module _ (tree : IsTree m) (from : Option ℕ) (from_name : List ℕ) (to : Option ℕ) (to_name : List ℕ) (a b : FoundDirectory) (entry : Entry) (moved : FoundInode)
      (at : IsRenamed m c from from_name to to_name a b entry moved) (can : CanRename c.ordinal b) (replaced : Option Replaced) (allowed : ⊤)
      (onto : IsOnto m moved (entry_named to_name b.listing.entries) replaced) (passed : checked (renaming_refusals m c (renaming_of a b moved replaced)) ≡ Ok allowed)
      (short : length to_name ≤ most_name_bytes) where
    abbrev r : Renaming
    r = renaming_of a b moved replaced

    abbrev IsEither : ℕ → Type 0
    IsEither id = (id ≡ a.id) ⊎ (id ≡ b.id)

    folders : (id : ℕ) (x : Inode) → get m id ≡ Some x → IsEither id → IsTrue (is_directory_body x.body)
    folders id x there (inl is) = is_folder from a at.from_at id x there is
    folders id x there (inr is) = is_folder to b at.to_at id x there is

    free : Each (IsKept P IsEither) (name_cleared (changed m a.id (without_entry c.time from_name)) c b.id to_name replaced)
    free = cleared c P by IsEither _ (without c P by IsEither m (start IsEither folders) a.id from_name) b.id to_name (inr refl) replaced

    below : (moves : Bool) → moves_directory r ≡ moves → Each (IsKept P IsEither) (moved_below (name_cleared (changed m a.id (without_entry c.time from_name)) c b.id to_name replaced) c a.id b.id moved.id moves)
    below false is = free
    below true is =
        let hung = step c P by IsEither _ free moved.id (with_parent b.id) (λ x there h. parent_limited b.id x h)
        (λ x held. by.hung moved.id b.id x (λ top. unrooted tree from from_name a entry at.from_at at.named (sym at.is ∙ top)) held) (λ x. kind_listed _ x.body) in
        let more = linked c P by IsEither _ hung b.id (link_free m c from from_name to to_name a b entry moved at can replaced allowed onto passed is) in
        unlinked c P by IsEither _ more a.id (inl refl)

    all_renamed : AreKept (renamed m c from_name to_name r)
    all_renamed =
        let left = fails (is_spent c.ordinal) (renaming_refusals m c r) allowed passed (search (inl, inr) depth 9) in
        let named_so = entered c P by IsEither (unnamed m c from_name to_name r) (below (moves_directory r) refl) b.id to_name moved.id left at.to_good short
        (room_made m c from from_name to to_name a b entry moved at can replaced allowed onto passed) in
        both IsEither _ (step c P by IsEither _ named_so moved.id (with_ctime c.time) (λ x there h. ctime_limited c.time x h) (λ x held. by.alike moved.id x (with_ctime c.time x) (refl, refl) held) (λ x. refl))

  -- The table ----------------------------------------------------------------------------------------------------------------

  new_dir : (handle : Option ℕ) (dir : FoundDirectory) (name : List ℕ) → IsDirectoryAt m handle dir → IsFreshFor m c.ordinal (known [] (ids_in handle ++ new_ids c.ordinal)) → IsNewName c dir.listing name → IsNew dir.id
  new_dir handle dir name at fresh new = led_of IsNew handle dir.id at.led (front_of IsNew (ids_in handle) (new_ids c.ordinal) (new_where_left m c.ordinal (known [] (ids_in handle ++ new_ids c.ordinal)) new.left fresh))

  linked_in : (target handle : Option ℕ) (dir : FoundDirectory) (name : List ℕ) → IsDirectoryAt m handle dir → IsFreshFor m c.ordinal (known [] (ids_in target ++ ids_in handle)) → IsNewName c dir.listing name → IsNew dir.id
  linked_in target handle dir name at fresh new = led_of IsNew handle dir.id at.led (back_of IsNew (ids_in target) (ids_in handle) (new_where_left m c.ordinal (known [] (ids_in target ++ ids_in handle)) new.left fresh))

  renamed_in : (test : Bool) (from to : Option ℕ) (moved old : List ℕ) (b : FoundDirectory) → IsDirectoryAt m to b → IsNewIn m c.ordinal (if test then whole else known [] (ids_in from ++ ids_in to ++ moved ++ old)) → IsNew b.id
  renamed_in true from to moved old b at new = new b.id
  renamed_in false from to moved old b at new =
      led_of IsNew to b.id at.led (back_of IsNew (ids_in from) (ids_in to) (front_of IsNew (ids_in from ++ ids_in to) moved (front_of IsNew (ids_in from ++ ids_in to ++ moved) old new)))

  kept_where_changed : IsTree m → (call : Call) → IsFresh m c call → IsShort call → IfChanged m c AreKept call
  kept_where_changed tree null fresh short = tt
  kept_where_changed tree (get_attributes handle) fresh short = tt
  kept_where_changed tree (set_attributes handle settings) fresh short = λ x allowed is passed.
      let there = (inode_at m handle x is).there in let new = with_settings c.time settings x.inode in (
        each_inserted (λ id y. IsLimited y) m limited x.id new (settings_limited c settings x.inode allowed passed (limited x.id x.inode there)),
        each_inserted P m own x.id new (by.alike x.id x.inode new (same_set c.time settings.size x.inode) (own x.id x.inode there)),
      )
  kept_where_changed tree root fresh short = tt
  kept_where_changed tree (look_up handle name) fresh short = tt
  kept_where_changed tree (read_link handle) fresh short = tt
  kept_where_changed tree (read handle offset count) fresh short = tt
  kept_where_changed tree write_cache fresh short = tt
  kept_where_changed tree (write handle offset written) fresh short = λ x small is passed.
      let there = (file_at m handle x is).there in let new = with_bytes c.time offset written x.inode in
      let end = ltb-false most_file_bytes (offset + length written) (fails (nat_lt most_file_bytes (offset + length written)) ((not (may_write_file c.caller x.inode), acces) ∷ (nat_lt most_file_bytes (offset + length written), fbig) ∷ []) small passed (inr (inl refl))) in (
        each_inserted (λ id y. IsLimited y) m limited x.id new (bytes_limited c.time offset written x.inode end (limited x.id x.inode there)),
        each_inserted P m own x.id new (by.alike x.id x.inode new (same_written offset written x.inode.body) (own x.id x.inode there)),
      )
  kept_where_changed tree (create handle name settings) fresh short = λ dir allowed is passed.
      let at = directory_at m handle dir is in
      let big : List (Bool × Status) = (nat_lt most_file_bytes (unwrap_or settings.size 0), fbig) ∷ [] in
      let size : unwrap_or settings.size 0 ≤ most_file_bytes = ltb-false most_file_bytes (unwrap_or settings.size 0) (fails (nat_lt most_file_bytes (unwrap_or settings.size 0)) (new_name_refusals c dir name (owner_refusals c.caller settings) ++ big) allowed passed (behind _ (new_name_refusals c dir name (owner_refusals c.caller settings)) big (inl refl))) in
      made_in handle name dir at (new_dir handle dir name at fresh) short (new_file c settings) (new_name c dir name (owner_refusals c.caller settings) big allowed passed)
      (record { links = omega arith; body = (omega arith, omega (arith, length-replicate {A = ℕ} (unwrap_or settings.size 0) 0)) }) refl
  kept_where_changed tree (remove handle name) fresh short = λ dir entry child plain at passed. name_out handle name dir child.id at.in_it false
  kept_where_changed tree (rename from from_name to to_name) fresh short = λ a b entry moved at replaced allowed onto passed.
      let left = fails (is_spent c.ordinal) (renaming_refusals m c (renaming_of a b moved replaced)) allowed passed (search (inl, inr) depth 9) in
      let new = renamed_in (moves_a_directory m from from_name to) from to (ids_in (child_at m from from_name)) (ids_in (child_at m to to_name)) b at.to_at (
      rw (lets_both m c.caller from to a b at.from_at at.to_at at.from_changes at.to_changes) at (new_where_left m c.ordinal (footprint m c (rename from from_name to to_name)) left fresh)) in
      all_renamed tree from from_name to to_name a b entry moved at (can_rename to b at.to_at new) replaced allowed onto passed short
  kept_where_changed tree (make_link handle in_directory name) fresh short = λ x plain dir allowed is no_directory dir_is passed.
      let at = directory_at m in_directory dir dir_is in
      let many : List (Bool × Status) = (has_most_links x.inode.links, nospc) ∷ [] in
      let links : x.inode.links < most_links = leb-false most_links x.inode.links (fails (has_most_links x.inode.links) (new_name_refusals c dir name [] ++ many) allowed passed (behind _ (new_name_refusals c dir name []) many (inl refl))) in
      let few = at_inserted x.id (λ y. y.links < most_links) m (at_found (λ y. y.links < most_links) m x.id x.inode (inode_at m handle x is).there links) dir.id (with_name c name x.id dir.inode) dir.inode at.there (λ lt. lt) in
      both IsNone _ (linked c P by IsNone _ (named_in in_directory name dir at (linked_in handle in_directory dir name at fresh) short x.id (new_name c dir name [] many allowed passed)) x.id (λ y here. few x.id y here refl))
  kept_where_changed tree (make_symbolic_link handle name target settings) fresh short = λ dir allowed is passed.
      let at = directory_at m handle dir is in
      made_in handle name dir at (new_dir handle dir name at fresh) short.0 (new_symbolic_link c settings target) (new_name c dir name (owner_refusals c.caller settings) [] allowed passed) (record { links = omega arith; body = (omega arith, short.1) }) refl
  kept_where_changed tree (make_directory handle name settings) fresh short = λ dir allowed is passed.
      let at = directory_at m handle dir is in
      let many : List (Bool × Status) = (has_most_links dir.inode.links, nospc) ∷ [] in
      let links : dir.inode.links < most_links = leb-false most_links dir.inode.links (fails (has_most_links dir.inode.links) (new_name_refusals c dir name (owner_refusals c.caller settings) ++ many) allowed passed (behind _ (new_name_refusals c dir name (owner_refusals c.caller settings)) many (inl refl))) in
      directory_made_in handle name dir at (new_dir handle dir name at fresh) short (new_directory c settings dir.id) (new_name c dir name (owner_refusals c.caller settings) many allowed passed) links (record { links = omega arith; body = (omega arith, tt, tt) }) refl
  kept_where_changed tree (remove_directory handle name) fresh short = λ dir entry child empty at passed. name_out handle name dir child.id at.in_it true
  kept_where_changed tree (read_directory handle cookie count) fresh short = tt
  kept_where_changed tree (file_system_status handle) fresh short = tt

  pub each_kept : IsTree m → (call : Call) → IsFresh m c call → IsShort call → AreKept (procedure m c call).0
  each_kept tree call fresh short = kept m c AreKept (limited, own) call (kept_where_changed tree call fresh short)

-- the limits alone
pub limited_kept : (m : Inodes) (c : Context) (call : Call) → IsFresh m c call → IsShort call → IsTree m → AreLimited m → AreLimited (procedure m c call).0
limited_kept m c call fresh short tree limited =
    (each_kept m c (λ id x. ⊤) (record { alike = λ id x y same own. tt; entered = λ left id name child x own. tt; without = λ id name x own. tt; hung = λ id parent x top own. tt; made = λ left x bare. tt }) limited (λ id x there. tt) tree call fresh short).0
