-- What RENAME's steps leave in the directory that something comes to: a place for an entry under the new name, and for a link.
use Rattle.std.proofs.Common.{◌≡◌, ℕ, ◌+◌, ◌-◌, ◌<◌, ◌≤◌, Bool, true, false, not, ◌&&◌, IsTrue, List, length, Option, Some, None, is_some, Ok, inl, inr, refl, sym, ap, subst, ◌∙◌, arith}
use Rattle.std.specs.Bool.{⊤}
use Rattle.std.specs.Prelude.{◌==◌, All}
use Rattle.std.specs.FinMap.{get, remove}
use Rattle.std.proofs.lemmas.Bool.{leb-false, not-false, and_parts, eqb-true, eq-eqb}
use Rattle.bfs_model.specs.Server.Limits.{most_entries, most_links}
use Rattle.bfs_model.specs.Server.Tree.{Entry, Body, file, directory, link, Inode, Inodes, is_directory_body, entries_in}
use Rattle.bfs_model.specs.Server.Context.{Context}
use Rattle.bfs_model.specs.Server.Directories.{entry_named, without_name}
use Rattle.bfs_model.specs.Server.Changes.{with_listing, without_entry, with_parent, with_link, with_link_less, changed}
use Rattle.bfs_model.specs.Server.Refusals.{FoundInode, FoundDirectory, checked, is_full, has_most_links}
use Rattle.bfs_model.specs.Server.Procedures.Renaming.{Replaced, moves_directory, onto_directory, renaming_refusals, name_lost, name_cleared, moved_below, unnamed, renaming_of}
use Rattle.bfs_model.specs.Server.WellFormed.{NamesDiffer}
use Rattle.bfs_model.proofs.Found.{fails, IsRenamed, IsOnto, onto_none, onto_entry}
use Rattle.bfs_model.proofs.WellFormed.Entries.{all_without, none_without, differ_without, gone_named, shorter, no_longer}
use Rattle.bfs_model.proofs.WellFormed.Each.{At, at_found, at_changed, at_changed_here, at_changed_other, at_removed, at_link_lost}

-- there is a place for an entry of that name, and for the ordinal as its cookie
pub record HasRoomIn (ordinal : ℕ) (name : List ℕ) (entries : List Entry) : Type 0 where
  pub fewer : length entries < most_entries
  pub free : entry_named name entries ≡ None
  pub below : All (λ entry. entry.cookie < ordinal) entries

abbrev pub HasRoomFor : (ordinal : ℕ) (name : List ℕ) → Inode → Type 0
HasRoomFor ordinal name x = HasRoomIn ordinal name (entries_in x.body)

-- there is a place for a link
abbrev pub HasLink : Inode → Type 0
HasLink x = x.links < most_links

-- what is asked of the directory that something comes to
pub record CanRename (ordinal : ℕ) (to : FoundDirectory) : Type 0 where
  pub few : length to.listing.entries ≤ most_entries
  pub differ : NamesDiffer to.listing.entries
  pub below : All (λ entry. entry.cookie < ordinal) to.listing.entries
  pub links : to.inode.links ≤ most_links

-- Of one inode -----------------------------------------------------------------------------------------------------------

pub entries_without : (name : List ℕ) (body : Body) → entries_in (with_listing (λ listing. record listing { entries = without_name name listing.entries }) body) ≡ without_name name (entries_in body)
entries_without name (file bytes) = refl
entries_without name (directory listing) = refl
entries_without name (link path) = refl

pub entries_below : (parent : ℕ) (body : Body) → entries_in (with_listing (λ listing. record listing { parent = parent }) body) ≡ entries_in body
entries_below parent (file bytes) = refl
entries_below parent (directory listing) = refl
entries_below parent (link path) = refl

pub second_false : (p q : Bool) → (p && q) ≡ false → p ≡ true → q ≡ false
second_false true q e is = e
second_false false q e is = absurd cc

pub third_false : (p q : Bool) → (p && true && q) ≡ false → p ≡ true → q ≡ false
third_false true q e is = e
third_false false q e is = absurd cc

-- RENAME's steps -----------------------------------------------------------------------------------------------------------

module _ (m : Inodes) (c : Context) (from : Option ℕ) (from_name : List ℕ) (to : Option ℕ) (to_name : List ℕ) (a b : FoundDirectory) (entry : Entry) (moved : FoundInode)
    (known : IsRenamed m c from from_name to to_name a b entry moved) (can : CanRename c.ordinal b) where
  abbrev taken : Inodes
  taken = changed m a.id (without_entry c.time from_name)

  -- the entries in the directory that it comes to, when it is taken out of the other
  abbrev left : (same : Bool) → List Entry
  left true = without_name from_name b.listing.entries
  left false = b.listing.entries

  -- both are one directory
  one_listing : a.id ≡ b.id → a.listing.entries ≡ b.listing.entries
  one_listing same = let one : a.inode ≡ b.inode = cc (ap (get m) same, known.from_at.there, known.to_at.there) in
      ap entries_in (sym known.from_at.holds ∙ ap (λ (x : Inode). x.body) one ∙ known.to_at.holds)

  named_in_one : a.id ≡ b.id → entry_named from_name b.listing.entries ≡ Some entry
  named_in_one same = ap (entry_named from_name) (sym (one_listing same)) ∙ known.named

  taken_leaves : (same : Bool) → (a.id == b.id) ≡ same → At b.id (λ x. entries_in x.body ≡ left same) taken
  taken_leaves true is =
      let same : a.id ≡ b.id = eqb-true a.id b.id is in
      subst (λ (at : ℕ). At at (λ x. entries_in x.body ≡ left true) taken) same
      (at_changed_here a.id (λ x. entries_in x.body ≡ left true) m (without_entry c.time from_name) (λ x there.
      let one : b.inode ≡ x = cc (ap (get m) same, known.to_at.there, there) in
      entries_without from_name x.body ∙ ap (without_name from_name) (ap (λ (x : Inode). entries_in x.body) (sym one) ∙ ap entries_in known.to_at.holds)))
  taken_leaves false is =
      at_changed_other b.id (λ x. entries_in x.body ≡ left false) m (at_found (λ x. entries_in x.body ≡ left false) m b.id b.inode known.to_at.there (ap entries_in known.to_at.holds))
      a.id (without_entry c.time from_name) (λ same. absurd (cc (eq-eqb a.id b.id same)))

  taken_links : At b.id (λ x. x.links ≡ b.inode.links) taken
  taken_links = at_changed b.id (λ x. x.links ≡ b.inode.links) m (at_found (λ x. x.links ≡ b.inode.links) m b.id b.inode known.to_at.there refl) a.id (without_entry c.time from_name) (λ x same. same)

  -- onto no entry
  room_free : (same : Bool) → (a.id == b.id) ≡ same → entry_named to_name b.listing.entries ≡ None → (not (a.id == b.id) && is_full (length b.listing.entries)) ≡ false → HasRoomIn c.ordinal to_name (left same)
  room_free true is free row = record {
    fewer = let few : length b.listing.entries ≤ most_entries = can.few in
        let less : length (left true) + 1 ≡ length b.listing.entries = shorter from_name b.listing.entries entry (named_in_one (eqb-true a.id b.id is)) in
        omega arith;
    free = none_without to_name from_name b.listing.entries free;
    below = all_without (λ entry. entry.cookie < c.ordinal) from_name b.listing.entries can.below;
  }
  room_free false is free row = record {
    fewer = leb-false most_entries (length b.listing.entries) (second_false (not (a.id == b.id)) _ row (ap not is));
    free = free;
    below = can.below;
  }

  -- onto an entry
  room_cleared : (same : Bool) → (a.id == b.id) ≡ same → (old : Entry) → entry_named to_name b.listing.entries ≡ Some old → HasRoomIn c.ordinal to_name (without_name to_name (left same))
  room_cleared true is old found = record {
    fewer = let few : length b.listing.entries ≤ most_entries = can.few in
        let less : length (left true) + 1 ≡ length b.listing.entries = shorter from_name b.listing.entries entry (named_in_one (eqb-true a.id b.id is)) in
        let no_more : length (without_name to_name (left true)) ≤ length (left true) = no_longer to_name (left true) in
        omega arith;
    free = gone_named to_name (left true) (differ_without from_name b.listing.entries can.differ);
    below = all_without (λ entry. entry.cookie < c.ordinal) to_name (left true) (all_without (λ entry. entry.cookie < c.ordinal) from_name b.listing.entries can.below);
  }
  room_cleared false is old found = record {
    fewer = let few : length b.listing.entries ≤ most_entries = can.few in
        let less : length (without_name to_name b.listing.entries) + 1 ≡ length b.listing.entries = shorter to_name b.listing.entries old found in
        omega arith;
    free = gone_named to_name b.listing.entries can.differ;
    below = all_without (λ entry. entry.cookie < c.ordinal) to_name b.listing.entries can.below;
  }

  lost_room : (n : Inodes) → At b.id (HasRoomFor c.ordinal to_name) n → (id : ℕ) (is_directory : Bool) → At b.id (HasRoomFor c.ordinal to_name) (name_lost n c b.id id is_directory)
  lost_room n room id true = at_changed b.id (HasRoomFor c.ordinal to_name) (remove n id) (at_removed b.id (HasRoomFor c.ordinal to_name) n room id) b.id (with_link_less c.time) (λ x holds. holds)
  lost_room n room id false = at_link_lost b.id (HasRoomFor c.ordinal to_name) n room c.time id (λ x holds. holds)

  below_room : (n : Inodes) → At b.id (HasRoomFor c.ordinal to_name) n → (moves : Bool) → At b.id (HasRoomFor c.ordinal to_name) (moved_below n c a.id b.id moved.id moves)
  below_room n room false = room
  below_room n room true =
      let Room = HasRoomFor c.ordinal to_name in
      let hung = at_changed b.id Room n room moved.id (with_parent b.id) (λ x holds. rw (entries_below b.id x.body) holds) in
      let linked = at_changed b.id Room _ hung b.id (with_link c.time) (λ x holds. holds) in
      at_changed b.id Room _ linked a.id (with_link_less c.time) (λ x holds. holds)

  cleared_room : (existing : Option Entry) → entry_named to_name b.listing.entries ≡ existing → (replaced : Option Replaced) → IsOnto m moved existing replaced
      → (not (is_some replaced) && not (a.id == b.id) && is_full (length b.listing.entries)) ≡ false → At b.id (HasRoomFor c.ordinal to_name) (name_cleared taken c b.id to_name replaced)
  cleared_room None existing replaced onto_none row = λ id x there here.
      subst (HasRoomIn c.ordinal to_name) (sym (taken_leaves (a.id == b.id) refl id x there here)) (room_free (a.id == b.id) refl existing row)
  cleared_room (Some old) existing replaced (onto_entry inode other held) row =
      lost_room (changed taken b.id (without_entry c.time to_name))
      (at_changed_here b.id (HasRoomFor c.ordinal to_name) taken (without_entry c.time to_name) (λ x there.
      subst (HasRoomIn c.ordinal to_name) (sym (entries_without to_name x.body ∙ ap (without_name to_name) (taken_leaves (a.id == b.id) refl b.id x there refl))) (room_cleared (a.id == b.id) refl old existing)))
      old.child _

  less_links : (x : Inode) → x.links ≡ b.inode.links → x.links - 1 < most_links
  less_links x same = let most : b.inode.links ≤ most_links = can.links in omega arith

  -- where it takes the place of a directory, that one's link is free
  cleared_link : (existing : Option Entry) (replaced : Option Replaced) → IsOnto m moved existing replaced → let r = renaming_of a b moved replaced in IsTrue (moves_directory r)
      → (r.is_directory && is_some r.replaced && not (onto_directory r)) ≡ false → (not (is_some r.replaced) && moves_directory r && has_most_links r.links) ≡ false
      → At b.id HasLink (name_cleared taken c b.id to_name replaced)
  cleared_link None replaced onto_none moves kinds links =
      let fewer : b.inode.links < most_links = leb-false most_links b.inode.links (second_false (moves_directory (renaming_of a b moved None)) _ links moves) in
      λ id x there here. let same : x.links ≡ b.inode.links = taken_links id x there here in omega arith
  cleared_link (Some old) replaced (onto_entry inode other held) moves kinds links =
      let without : Inodes = changed taken b.id (without_entry c.time to_name) in
      let same = at_changed b.id (λ x. x.links ≡ b.inode.links) taken taken_links b.id (without_entry c.time to_name) (λ x is. is) in
      let is_one : is_directory_body inode.body ≡ true =
      not-false (is_directory_body inode.body) (third_false (is_directory_body moved.inode.body) (not (is_directory_body inode.body)) kinds (and_parts (is_directory_body moved.inode.body) (not (a.id == b.id)) moves).0) in
      subst (λ kind. At b.id HasLink (name_lost without c b.id old.child kind)) (sym is_one)
      (at_changed_here b.id HasLink (remove without old.child) (with_link_less c.time) (λ x there. less_links x (at_removed b.id (λ x. x.links ≡ b.inode.links) without same old.child b.id x there refl)))

  module _ (replaced : Option Replaced) (allowed : ⊤) (onto : IsOnto m moved (entry_named to_name b.listing.entries) replaced)
      (passed : checked (renaming_refusals m c (renaming_of a b moved replaced)) ≡ Ok allowed) where
    room_at : At b.id (HasRoomFor c.ordinal to_name) (unnamed m c from_name to_name (renaming_of a b moved replaced))
    room_at =
        let r = renaming_of a b moved replaced in
        below_room (name_cleared taken c b.id to_name replaced)
        (cleared_room (entry_named to_name b.listing.entries) refl replaced onto
        (fails (not (is_some r.replaced) && not (r.from == r.to) && is_full r.entries) (renaming_refusals m c r) allowed passed (search (inl, inr) depth 9)))
        (moves_directory r)

    -- before the entry of the new name is made, there is room for it
    pub room_made : (x : Inode) → get (unnamed m c from_name to_name (renaming_of a b moved replaced)) b.id ≡ Some x → HasRoomFor c.ordinal to_name x
    room_made x there = room_at b.id x there refl

    -- before a directory comes below another one, that one can have a link more
    pub link_free : IsTrue (moves_directory (renaming_of a b moved replaced)) → (x : Inode)
        → get (changed (name_cleared taken c b.id to_name replaced) moved.id (with_parent b.id)) b.id ≡ Some x → x.links < most_links
    link_free moves x there =
        let r = renaming_of a b moved replaced in
        let cleared = cleared_link (entry_named to_name b.listing.entries) replaced onto moves
        (fails (r.is_directory && is_some r.replaced && not (onto_directory r)) (renaming_refusals m c r) allowed passed (search (inl, inr) depth 9))
        (fails (not (is_some r.replaced) && moves_directory r && has_most_links r.links) (renaming_refusals m c r) allowed passed (search (inl, inr) depth 9)) in
        at_changed b.id HasLink (name_cleared taken c b.id to_name replaced) cleared moved.id (with_parent b.id) (λ x few. few) b.id x there refl
