-- What is planned of RENAME can be carried out.
use Rattle.std.proofs.Common.{◌≡◌, ℕ, ◌<◌, Bool, true, false, IsTrue, List, [], ◌∷◌, ◌++◌, if◌then◌else◌, Option, Some, Ok, inl, inr, All, refl, sym, ap, subst, ◌∙◌}
use Rattle.std.specs.List.{AllByRecursion}
use Rattle.std.specs.Option.{ForSome}
use Rattle.std.proofs.lemmas.Bool.{leb-false}
use Rattle.std.proofs.lemmas.Option.{same_Some}
use Rattle.bfs_model.specs.Server.Context.{Context}
use Rattle.bfs_model.specs.Server.Tree.{Entry, Inodes, entries_at, entries_in, spent_ordinal}
use Rattle.bfs_model.specs.Server.Directories.{entry_named}
use Rattle.bfs_model.specs.Bytes.Arguments.{rename}
use Rattle.bfs_model.specs.Server.Access.{may_change_entries}
use Rattle.bfs_model.specs.Server.Footprints.{Footprint, known, whole, ids_in, child_at, lets_rename, moves_a_directory, footprint, IsNewAt, IsNewIn, IsFresh}
use Rattle.bfs_model.specs.Server.Procedures.Renaming.{Renaming, Replaced, renaming_refusals, renaming_of, renaming_planned}
use Rattle.bfs_model.specs.Server.Refusals.{FoundInode, FoundDirectory, is_spent, directory_found}
use Rattle.bfs_model.proofs.Public.{CanRename, IsDirectoryAt, IsOnto, fails, link_free, onto_entry, onto_none, planned_was, room_made}
use Rattle.bfs_procs.specs.Renaming.{IsWithin, CanCarryOut}
use Rattle.bfs_procs.proofs.Fresh.{both, led_to, unspent_is_new}
use Rattle.bfs_procs.proofs.Reached.{let_in, let_in_both}
use Rattle.bfs_tree.specs.Reach.{Reach, Knows}

-- the fileid of a name
named_is : (m : Inodes) (handle : Option ℕ) (name : List ℕ) (dir : FoundDirectory) (entry : Entry) → IsDirectoryAt m handle dir → entry_named name dir.listing.entries ≡ Some entry → child_at m handle name ≡ Some entry.child
named_is m handle name dir entry at named = rw (at.led, at.there, at.holds, named) refl

module _ (m : Inodes) (c : Context) (from : Option ℕ) (from_name : List ℕ) (to : Option ℕ) (to_name : List ℕ) where
  abbrev ids : List ℕ
  ids = ids_in from ++ ids_in to ++ ids_in (child_at m from from_name) ++ ids_in (child_at m to to_name)

  -- what holds of all that a call writes holds of these
  written_by : (P : ℕ → Type 0) (moves : Bool) (touched : Footprint → Type 0) → (touched whole → (id : ℕ) → P id) → (touched (known [] ids) → AllByRecursion P ids)
      → touched (if moves then whole else known [] ids) → AllByRecursion P ids
  written_by P true touched all listed holds = each ids
    where
      each : (xs : List ℕ) → AllByRecursion P xs
      each [] = tt
      each (x ∷ xs) = (all holds x, each xs)
  written_by P false touched all listed holds = listed holds

  owned : (reach : Reach) → lets_rename m c.caller from to ≡ true → Knows reach (footprint m c (rename from from_name to to_name)) → (reach.whole ≡ true → (id : ℕ) → reach.owned id ≡ true) → AllByRecursion (λ id. IsTrue (reach.owned id)) ids
  owned reach let_in knows owns = written_by (λ id. IsTrue (reach.owned id)) (moves_a_directory m from from_name to) (Knows reach) owns (λ holds. holds.1) (rw let_in at knows)

  new : lets_rename m c.caller from to ≡ true → IsFresh m c (rename from from_name to to_name) → c.ordinal < spent_ordinal → AllByRecursion (IsNewAt m c.ordinal) ids
  new let_in fresh unspent = written_by (IsNewAt m c.ordinal) (moves_a_directory m from from_name to) (IsNewIn m c.ordinal) (λ holds. holds) (λ holds. holds)
      (rw let_in at (unspent_is_new m c.ordinal (footprint m c (rename from from_name to to_name)) fresh unspent))

  module _ (P : ℕ → Type 0) (all : AllByRecursion P ids) where
    abbrev parts : (AllByRecursion P (ids_in from ++ ids_in to ++ ids_in (child_at m from from_name))) × AllByRecursion P (ids_in (child_at m to to_name))
    parts = both P (ids_in from ++ ids_in to ++ ids_in (child_at m from from_name)) (ids_in (child_at m to to_name)) all

    abbrev fronts : (AllByRecursion P (ids_in from ++ ids_in to)) × AllByRecursion P (ids_in (child_at m from from_name))
    fronts = both P (ids_in from ++ ids_in to) (ids_in (child_at m from from_name)) parts.0

    at_from : (id : ℕ) → from ≡ Some id → P id
    at_from = led_to P from (both P (ids_in from) (ids_in to) fronts.0).0

    at_to : (id : ℕ) → to ≡ Some id → P id
    at_to = led_to P to (both P (ids_in from) (ids_in to) fronts.0).1

    at_moved : (id : ℕ) → child_at m from from_name ≡ Some id → P id
    at_moved = led_to P (child_at m from from_name) fronts.1

    at_existing : (id : ℕ) → child_at m to to_name ≡ Some id → P id
    at_existing = led_to P (child_at m to to_name) parts.1

  replaced_owned : (reach : Reach) (b : FoundDirectory) (moved : FoundInode) → IsDirectoryAt m to b → AllByRecursion (λ id. IsTrue (reach.owned id)) ids
      → (existing : Option Entry) → entry_named to_name b.listing.entries ≡ existing → (replaced : Option Replaced) → IsOnto m moved existing replaced → ForSome replaced (λ x. IsTrue (reach.owned x.id))
  replaced_owned reach b moved at all existing is replaced onto_none = λ x there. absurd cc
  replaced_owned reach b moved at all (Some entry) is replaced (onto_entry inode other held) =
      λ x there. let same : x.id ≡ entry.child = ap (λ (r : Replaced). r.id) (sym (same_Some _ x there)) in
      subst (λ id. IsTrue (reach.owned id)) (sym same) (at_existing (λ id. IsTrue (reach.owned id)) all entry.child (named_is m to to_name b entry at is))

  pub can_carry_out : (reach : Reach) (r : Renaming) → renaming_planned m c from from_name to to_name ≡ Ok (Some r) → ((found : FoundDirectory) → directory_found m to ≡ Ok found → IsWithin found)
      → IsFresh m c (rename from from_name to to_name) → Knows reach (footprint m c (rename from from_name to to_name)) → (reach.whole ≡ true → (id : ℕ) → reach.owned id ≡ true)
      → CanCarryOut m reach c from_name to_name r
  can_carry_out reach r plan limits fresh knows owns =
      let p = planned_was m c from from_name to to_name (Some r) plan in
      let q = p.planned in
      let at = p.renamed_it in
      let seen = renaming_of p.a p.b p.moved q.replaced in
      let unspent : c.ordinal < spent_ordinal = leb-false spent_ordinal c.ordinal (fails (is_spent c.ordinal) (renaming_refusals m c seen) q.allowed q.passed (search (inl, inr) depth 9)) in
      let inside : lets_rename m c.caller from to ≡ true =
      let_in_both m c.caller from to (let_in m c.caller may_change_entries from p.a.id p.a.inode at.from_at.led at.from_at.there at.from_changes) (let_in m c.caller may_change_entries to p.b.id p.b.inode at.to_at.led at.to_at.there at.to_changes) in
      let mine = owned reach inside knows owns in
      let within = limits p.b p.to_is in
      let below : All (λ entry. entry.cookie < c.ordinal) p.b.listing.entries =
      subst (λ listed. All (λ (entry : Entry). entry.cookie < c.ordinal) listed) (ap entries_at at.to_at.there ∙ ap entries_in at.to_at.holds) (at_to (IsNewAt m c.ordinal) (new inside fresh unspent) p.b.id at.to_at.led).1 in
      let can : CanRename c.ordinal p.b = record { few = within.few; differ = within.differ; below = below; links = within.links } in
      let moved_is : child_at m from from_name ≡ Some p.moved.id = named_is m from from_name p.a p.entry at.from_at at.named ∙ ap Some (sym at.is) in
      subst (CanCarryOut m reach c from_name to_name) q.is (record {
        from = at_from (λ id. IsTrue (reach.owned id)) mine p.a.id at.from_at.led;
        to = at_to (λ id. IsTrue (reach.owned id)) mine p.b.id at.to_at.led;
        moved = at_moved (λ id. IsTrue (reach.owned id)) mine p.moved.id moved_is;
        replaced = replaced_owned reach p.b p.moved at.to_at mine (entry_named to_name p.b.listing.entries) refl q.replaced q.onto;
        unspent = unspent;
        few = λ moves x there. link_free m c from from_name to to_name p.a p.b p.entry p.moved at can q.replaced q.allowed q.onto q.passed moves x there;
        room = λ x there. room_made m c from from_name to to_name p.a p.b p.entry p.moved at can q.replaced q.allowed q.onto q.passed x there;
      })
