-- What it says that tests are passed, and that an inode, a directory or a file was found.
use Rattle.std.proofs.Common.{◌≡◌, ℕ, Bool, true, false, not, List, [], ◌∷◌, Option, Some, None, Result, Ok, Err, ◌⊎◌, inl, inr, ◌==◌, eq-eqb, if◌then◌else◌, refl, sym, ap, subst, ◌∙◌}
use Rattle.std.specs.Bool.{⊤}
use Rattle.std.proofs.lemmas.Option.{same_Some}
use Rattle.std.proofs.lemmas.Bool.{not-false}
use Rattle.std.specs.Option.{ok_or, option_map_or}
use Rattle.std.specs.FinMap.{get}
use Rattle.bfs_model.specs.Bytes.Items.{◌>>=◌}
use Rattle.bfs_model.specs.Server.Context.{Context}
use Rattle.bfs_model.specs.Server.Access.{may_change_entries}
use Rattle.bfs_model.specs.Server.Tree.{Entry, Listing, Body, file, directory, link, Inode, Inodes, listing_in, is_directory_body}
use Rattle.bfs_model.specs.Bytes.Replies.{Status, perm, noent, acces, notdir, stale}
use Rattle.bfs_model.specs.Server.Directories.{is_bad_name, entry_named}
use Rattle.bfs_model.specs.Server.Procedures.Removing.{child_found, has_entries}
use Rattle.bfs_model.specs.Server.Procedures.Renaming.{Renaming, Replaced, name_refusals, renaming_refusals, replaced_by, renaming_of, renaming_found, if_allowed, renaming_planned}
use Rattle.bfs_model.specs.Server.Refusals.{FoundInode, FoundDirectory, FoundFile, checked, inode_found, directory_found, bytes_in, file_found}

-- Tests by their name ------------------------------------------------------------------------------------------------

-- a test is one of these, wherever it stands
abbrev pub IsAmong : (test : Bool) → List (Bool × Status) → Type 0
IsAmong test [] = ⊥
IsAmong test (row ∷ rows) = (row.0 ≡ test) ⊎ IsAmong test rows

row_passed : (first : Bool) (status : Status) (rest : Result ⊤ Status) (x : ⊤) → (if first then Err status else rest) ≡ Ok x → (first ≡ false) × (rest ≡ Ok x)
row_passed true status rest x is = absurd cc
row_passed false status rest x is = (refl, is)

-- where tests are passed, none of them holds
pub fails : (test : Bool) (rows : List (Bool × Status)) (x : ⊤) → checked rows ≡ Ok x → IsAmong test rows → test ≡ false
fails test [] x is among = absurd among
fails test (row ∷ rows) x is (inl here) = sym here ∙ (row_passed row.0 row.1 (checked rows) x is).0
fails test (row ∷ rows) x is (inr further) = fails test rows x (row_passed row.0 row.1 (checked rows) x is).1 further

-- What was found -----------------------------------------------------------------------------------------------------

pub record IsInodeAt (m : Inodes) (handle : Option ℕ) (x : FoundInode) : Type 0 where
  pub led : handle ≡ Some x.id
  pub there : get m x.id ≡ Some x.inode

pub record IsDirectoryAt (m : Inodes) (handle : Option ℕ) (x : FoundDirectory) : Type 0 where
  pub led : handle ≡ Some x.id
  pub there : get m x.id ≡ Some x.inode
  pub holds : x.inode.body ≡ directory x.listing

pub record IsFileAt (m : Inodes) (handle : Option ℕ) (x : FoundFile) : Type 0 where
  pub led : handle ≡ Some x.id
  pub there : get m x.id ≡ Some x.inode
  pub holds : x.inode.body ≡ file x.bytes

-- what is there was found
pub was_there : {X : Type 0} (there : Option X) (status : Status) (x : X) → ok_or there status ≡ Ok x → there ≡ Some x
was_there None status x is = absurd cc
was_there (Some y) status x is = cc

-- what stands behind a step that was done
pub then_was : {X Y : Type 0} (found : Result X Status) (next : X → Result Y Status) (y : Y) → (found >>= next) ≡ Ok y → (x : X) × (found ≡ Ok x) × (next x ≡ Ok y)
then_was (Ok x) next y is = (x, refl, is)
then_was (Err status) next y is = absurd cc

the_same : {X : Type 0} (x y : X) → ◌≡◌ {A = Result X Status} (Ok x) (Ok y) → x ≡ y
the_same x y is = cc

pub inode_at : (m : Inodes) (handle : Option ℕ) (x : FoundInode) → inode_found m handle ≡ Ok x → IsInodeAt m handle x
inode_at m handle x is =
    let id = then_was (ok_or handle stale) _ x is in
    let inode = then_was (ok_or (get m id.0) stale) _ x id.2 in
    subst (IsInodeAt m handle) (the_same _ x inode.2) (record { led = was_there handle stale id.0 id.1; there = was_there (get m id.0) stale inode.0 inode.1 })

pub listing_is : (body : Body) (listing : Listing) → listing_in body ≡ Some listing → body ≡ directory listing
listing_is (file bytes) listing is = absurd cc
listing_is (directory held) listing is = let same : held ≡ listing = cc in ap directory same
listing_is (link target) listing is = absurd cc

pub directory_at : (m : Inodes) (handle : Option ℕ) (x : FoundDirectory) → directory_found m handle ≡ Ok x → IsDirectoryAt m handle x
directory_at m handle x is =
    let at = then_was (inode_found m handle) _ x is in
    let listing = then_was (ok_or (listing_in at.0.inode.body) notdir) _ x at.2 in
    let there = inode_at m handle at.0 at.1 in
    subst (IsDirectoryAt m handle) (the_same _ x listing.2)
    (record { led = there.led; there = there.there; holds = listing_is at.0.inode.body listing.0 (was_there (listing_in at.0.inode.body) notdir listing.0 listing.1) })

bytes_are : (body : Body) (bytes : List ℕ) → bytes_in body ≡ Ok bytes → body ≡ file bytes
bytes_are (file held) bytes is = let same : held ≡ bytes = cc in ap file same
bytes_are (directory listing) bytes is = absurd cc
bytes_are (link target) bytes is = absurd cc

pub file_at : (m : Inodes) (handle : Option ℕ) (x : FoundFile) → file_found m handle ≡ Ok x → IsFileAt m handle x
file_at m handle x is =
    let at = then_was (inode_found m handle) _ x is in
    let bytes = then_was (bytes_in at.0.inode.body) _ x at.2 in
    let there = inode_at m handle at.0 at.1 in
    subst (IsFileAt m handle) (the_same _ x bytes.2) (record { led = there.led; there = there.there; holds = bytes_are at.0.inode.body bytes.0 bytes.1 })

-- Names ----------------------------------------------------------------------------------------------------------------

-- a good name, what it leads to, and the directory that has it, which the caller may change
pub record IsChildAt (m : Inodes) (c : Context) (handle : Option ℕ) (name : List ℕ) (dir : FoundDirectory) (entry : Entry) (child : FoundInode) : Type 0 where
  pub in_it : IsDirectoryAt m handle dir
  pub changes : may_change_entries c.caller dir.inode ≡ true
  pub good : is_bad_name name ≡ false
  pub named : entry_named name dir.listing.entries ≡ Some entry
  pub is : child.id ≡ entry.child
  pub there : get m child.id ≡ Some child.inode

pub child_at : (m : Inodes) (c : Context) (handle : Option ℕ) (name : List ℕ) (dir : FoundDirectory) (child : FoundInode) → child_found m c handle name ≡ Ok (dir, child) → (entry : Entry) × IsChildAt m c handle name dir entry child
child_at m c handle name dir child is =
    let rows : FoundDirectory → List (Bool × Status) = λ found. (not (may_change_entries c.caller found.inode), acces) ∷ (is_bad_name name, perm) ∷ [] in
    let at = then_was (directory_found m handle) _ (dir, child) is in
    let good = then_was (checked (rows at.0)) _ (dir, child) at.2 in
    let named = then_was (ok_or (entry_named name at.0.listing.entries) noent) _ (dir, child) good.2 in
    let held = then_was (inode_found m (Some named.0.child)) _ (dir, child) named.2 in
    let there = inode_at m (Some named.0.child) held.0 held.1 in
    let both = the_same (at.0, held.0) (dir, child) held.2 in (
      named.0,
      subst (λ (found : FoundDirectory × FoundInode). IsChildAt m c handle name found.0 named.0 found.1) both (record {
        in_it = directory_at m handle at.0 at.1;
        changes = not-false (may_change_entries c.caller at.0.inode) (fails (not (may_change_entries c.caller at.0.inode)) (rows at.0) good.0 good.1 (inl refl));
        good = fails (is_bad_name name) (rows at.0) good.0 good.1 (inr (inl refl));
        named = was_there (entry_named name at.0.listing.entries) noent named.0 named.1;
        is = sym (same_Some named.0.child held.0.id there.led);
        there = there.there;
      }),
    )

-- what RENAME moves, and the directories from which and to which, both of which the caller may change
pub record IsRenamed (m : Inodes) (c : Context) (from : Option ℕ) (from_name : List ℕ) (to : Option ℕ) (to_name : List ℕ) (a b : FoundDirectory) (entry : Entry) (moved : FoundInode) : Type 0 where
  pub from_at : IsDirectoryAt m from a
  pub to_at : IsDirectoryAt m to b
  pub from_changes : may_change_entries c.caller a.inode ≡ true
  pub to_changes : may_change_entries c.caller b.inode ≡ true
  pub from_good : is_bad_name from_name ≡ false
  pub to_good : is_bad_name to_name ≡ false
  pub named : entry_named from_name a.listing.entries ≡ Some entry
  pub is : moved.id ≡ entry.child
  pub there : get m moved.id ≡ Some moved.inode

-- onto no entry, or onto one of another inode
pub data IsOnto (m : Inodes) (moved : FoundInode) : Option Entry → Option Replaced → Type 0 where
  onto_none : IsOnto m moved None None
  onto_entry : {entry : Entry} (inode : Inode) → (entry.child ≡ moved.id → ⊥) → get m entry.child ≡ Some inode
      → IsOnto m moved (Some entry) (Some (record { id = entry.child; is_directory = is_directory_body inode.body; has_entries = has_entries inode.body }))

pub replaced_is : (m : Inodes) (moved : FoundInode) (entry : Entry) (replaced : Option Replaced) → (entry.child ≡ moved.id → ⊥) → replaced_by m (Some entry) ≡ Ok replaced → IsOnto m moved (Some entry) replaced
replaced_is m moved entry replaced other is =
    let at = then_was (inode_found m (Some entry.child)) _ replaced is in
    let there = inode_at m (Some entry.child) at.0 at.1 in
    let same : at.0.id ≡ entry.child = sym (same_Some entry.child at.0.id there.led) in
    subst (IsOnto m moved (Some entry)) (ap (λ id. Some (record { id = id; is_directory = is_directory_body at.0.inode.body; has_entries = has_entries at.0.inode.body })) (sym same) ∙ the_same _ replaced at.2)
    (onto_entry at.0.inode other (ap (get m) (sym same) ∙ there.there))

-- what is planned of it: nothing, or this, which may be
pub record IsAllowed (m : Inodes) (c : Context) (to_name : List ℕ) (a b : FoundDirectory) (moved : FoundInode) (r : Renaming) : Type 0 where
  pub replaced : Option Replaced
  pub onto : IsOnto m moved (entry_named to_name b.listing.entries) replaced
  pub allowed : ⊤
  pub passed : checked (renaming_refusals m c (renaming_of a b moved replaced)) ≡ Ok allowed
  pub is : renaming_of a b moved replaced ≡ r

abbrev pub IsPlan : Inodes → Context → (to_name : List ℕ) → (a b : FoundDirectory) → FoundInode → Option Renaming → Type 0
IsPlan m c to_name a b moved None = Unit {0}
IsPlan m c to_name a b moved (Some r) = IsAllowed m c to_name a b moved r

some_is : (x y : Renaming) → ◌≡◌ {A = Result (Option Renaming) Status} (Ok (Some x)) (Ok (Some y)) → x ≡ y
some_is x y is = let both : ◌≡◌ {A = Option Renaming} (Some x) (Some y) = the_same (Some x) (Some y) is in same_Some x y both

-- what is found, before its refusals
pub record IsFoundPlan (m : Inodes) (to_name : List ℕ) (a b : FoundDirectory) (moved : FoundInode) (r : Renaming) : Type 0 where
  pub replaced : Option Replaced
  pub onto : IsOnto m moved (entry_named to_name b.listing.entries) replaced
  pub is : renaming_of a b moved replaced ≡ r

abbrev pub IsFound : Inodes → (to_name : List ℕ) → (a b : FoundDirectory) → FoundInode → Option Renaming → Type 0
IsFound m to_name a b moved None = Unit {0}
IsFound m to_name a b moved (Some r) = IsFoundPlan m to_name a b moved r

allowed_was : (m : Inodes) (c : Context) (to_name : List ℕ) (a b : FoundDirectory) (moved : FoundInode) (held plan : Option Renaming) → IsFound m to_name a b moved held → if_allowed m c held ≡ Ok plan → IsPlan m c to_name a b moved plan
allowed_was m c to_name a b moved None None found_it is = tt
allowed_was m c to_name a b moved None (Some r) found_it is = absurd (let both : ◌≡◌ {A = Option Renaming} None (Some r) = the_same None (Some r) is in cc)
allowed_was m c to_name a b moved (Some held) None found_it is = tt
allowed_was m c to_name a b moved (Some held) (Some r) found_it is =
    let at = then_was (checked (renaming_refusals m c held)) _ (Some r) is in
    record {
      replaced = found_it.replaced;
      onto = found_it.onto;
      allowed = at.0;
      passed = subst (λ k. checked (renaming_refusals m c k) ≡ Ok at.0) (sym found_it.is) at.1;
      is = found_it.is ∙ some_is held r at.2;
    }

module _ (m : Inodes) (a b : FoundDirectory) (moved : FoundInode) (to_name : List ℕ) where
  onto_found : (replaced : Option Replaced) (held : Option Renaming) → IsOnto m moved (entry_named to_name b.listing.entries) replaced
      → ◌≡◌ {A = Result (Option Renaming) Status} (Ok (Some (renaming_of a b moved replaced))) (Ok held) → IsFound m to_name a b moved held
  onto_found replaced None onto is = tt
  onto_found replaced (Some r) onto is = record { replaced = replaced; onto = onto; is = some_is (renaming_of a b moved replaced) r is }

  onto_entry_was : (old : Entry) (same : Bool) (held : Option Renaming) → (old.child == moved.id) ≡ same → entry_named to_name b.listing.entries ≡ Some old
      → (if same then Ok None else (replaced_by m (Some old) >>= λ replaced. Ok (Some (renaming_of a b moved replaced)))) ≡ Ok held → IsFound m to_name a b moved held
  onto_entry_was old true None other existing is = tt
  onto_entry_was old true (Some r) other existing is = absurd (let both : ◌≡◌ {A = Option Renaming} None (Some r) = the_same None (Some r) is in cc)
  onto_entry_was old false held other existing is =
      let at = then_was (replaced_by m (Some old)) _ held is in
      onto_found at.0 held (subst (λ there. IsOnto m moved there at.0) (sym existing) (replaced_is m moved old at.0 (λ equal. absurd (cc (eq-eqb old.child moved.id equal))) at.1)) at.2

  onto_was : (existing : Option Entry) (held : Option Renaming) → entry_named to_name b.listing.entries ≡ existing
      → (if option_map_or (λ other. other.child == moved.id) existing false then Ok None else (replaced_by m existing >>= λ replaced. Ok (Some (renaming_of a b moved replaced)))) ≡ Ok held → IsFound m to_name a b moved held
  onto_was None held existing is = onto_found None held (subst (λ there. IsOnto m moved there None) (sym existing) onto_none) is
  onto_was (Some old) held existing is = onto_entry_was old (old.child == moved.id) held refl existing is

-- what RENAME found: the directories, what is moved, and that which is known of them
pub record IsFoundBy (m : Inodes) (c : Context) (from : Option ℕ) (from_name : List ℕ) (to : Option ℕ) (to_name : List ℕ) (IsKnown : FoundDirectory → FoundDirectory → FoundInode → Type 0) : Type 0 where
  pub a : FoundDirectory
  pub b : FoundDirectory
  pub entry : Entry
  pub moved : FoundInode
  pub to_is : directory_found m to ≡ Ok b
  pub renamed_it : IsRenamed m c from from_name to to_name a b entry moved
  pub planned : IsKnown a b moved

-- .. before its refusals
abbrev pub IsHeld : Inodes → Context → Option ℕ → List ℕ → Option ℕ → List ℕ → Option Renaming → Type 0
IsHeld m c from from_name to to_name held = IsFoundBy m c from from_name to to_name (λ a b moved. IsFound m to_name a b moved held)

-- .. and once they are passed
abbrev pub IsPlanned : Inodes → Context → Option ℕ → List ℕ → Option ℕ → List ℕ → Option Renaming → Type 0
IsPlanned m c from from_name to to_name plan = IsFoundBy m c from from_name to to_name (λ a b moved. IsPlan m c to_name a b moved plan)

pub found_was : (m : Inodes) (c : Context) (from : Option ℕ) (from_name : List ℕ) (to : Option ℕ) (to_name : List ℕ) (held : Option Renaming)
    → renaming_found m c from from_name to to_name ≡ Ok held → IsHeld m c from from_name to to_name held
found_was m c from from_name to to_name held is =
    let a = then_was (directory_found m from) _ held is in
    let b = then_was (directory_found m to) _ held a.2 in
    let rows = name_refusals c a.0 b.0 from_name to_name in
    let good = then_was (checked rows) _ held b.2 in
    let entry = then_was (ok_or (entry_named from_name a.0.listing.entries) noent) _ held good.2 in
    let moved = then_was (inode_found m (Some entry.0.child)) _ held entry.2 in
    let there = inode_at m (Some entry.0.child) moved.0 moved.1 in
    record {
      a = a.0;
      b = b.0;
      entry = entry.0;
      moved = moved.0;
      to_is = b.1;
      renamed_it = record {
        from_at = directory_at m from a.0 a.1;
        to_at = directory_at m to b.0 b.1;
        from_changes = not-false (may_change_entries c.caller a.0.inode) (fails (not (may_change_entries c.caller a.0.inode)) rows good.0 good.1 (inl refl));
        to_changes = not-false (may_change_entries c.caller b.0.inode) (fails (not (may_change_entries c.caller b.0.inode)) rows good.0 good.1 (inr (inl refl)));
        from_good = fails (is_bad_name from_name) rows good.0 good.1 (inr (inr (inl refl)));
        to_good = fails (is_bad_name to_name) rows good.0 good.1 (inr (inr (inr (inl refl))));
        named = was_there (entry_named from_name a.0.listing.entries) noent entry.0 entry.1;
        is = sym (same_Some entry.0.child moved.0.id there.led);
        there = there.there;
      };
      planned = onto_was m a.0 b.0 moved.0 to_name (entry_named to_name b.0.listing.entries) held refl moved.2;
    }

pub planned_was : (m : Inodes) (c : Context) (from : Option ℕ) (from_name : List ℕ) (to : Option ℕ) (to_name : List ℕ) (plan : Option Renaming)
    → renaming_planned m c from from_name to to_name ≡ Ok plan → IsPlanned m c from from_name to to_name plan
planned_was m c from from_name to to_name plan is =
    let held = then_was (renaming_found m c from from_name to to_name) _ plan is in
    let at = found_was m c from from_name to to_name held.0 held.1 in
    record { a = at.a; b = at.b; entry = at.entry; moved = at.moved; to_is = at.to_is; renamed_it = at.renamed_it; planned = allowed_was m c to_name at.a at.b at.moved held.0 plan at.planned held.2 }
