-- What RENAME does to the inodes keeps a tree.
use Rattle.std.proofs.Common.{◌≡◌, ℕ, ◌+◌, ◌≤◌, ◌==◌, ◌&&◌, Bool, true, false, not, cond, ◌||◌, eqb, leb, IsTrue, IsFalse, List, [], ◌∷◌, ◌++◌, Option, Some, None, Ok, bytes_eq, inl, inr, refl, sym, ap, subst, ◌∙◌, arith}
use Rattle.std.specs.Bool.{⊤}
use Rattle.std.specs.Option.{option_map_or}
use Rattle.std.specs.FinMap.{get, insert, remove}
use Rattle.std.proofs.lemmas.Bool.{cases_eq, cases_Bool, ne_eqb, eq-eqb, eqb-true, eqb-false, cond-true, cond-false}
use Rattle.std.proofs.lemmas.Option.{same_Some}
use Rattle.bfs_model.specs.Server.Tree.{Time, Entry, Listing, Body, file, directory, link, Inode, Inodes, root_id, is_directory_body, is_directory, entries_in, entries_at, parent_in, parent_at, parent_of}
use Rattle.bfs_model.specs.Server.Context.{Context}
use Rattle.bfs_model.specs.Bytes.Replies.{Status}
use Rattle.bfs_model.specs.Server.Directories.{entry_named, without_name}
use Rattle.bfs_model.specs.Server.Changes.{with_listing, with_entry, without_entry, with_parent, with_link, with_link_less, with_ctime, changed, link_lost, link_lost_of}
use Rattle.bfs_model.specs.Server.Refusals.{FoundInode, FoundDirectory, checked}
use Rattle.bfs_model.specs.Server.Procedures.Making.{entry_made, with_name}
use Rattle.bfs_model.specs.Server.Procedures.Removing.{has_entries}
use Rattle.bfs_model.specs.Server.Procedures.Renaming.{Renaming, Replaced, is_below, moves_directory, onto_entries, renaming_refusals, name_lost, name_cleared, moved_below, renamed, renaming_of}
use Rattle.bfs_model.specs.Server.WellFormed.{times, named, ReachesRoot}
use Rattle.bfs_model.proofs.Found.{fails, IsRenamed, IsOnto, onto_none, onto_entry}
use Rattle.bfs_model.proofs.WellFormed.Sums.{one, above, hit, under, links_at, own, Owing, WellFormed, nothing, none_loose, cut, get-set_here, get-set_other, reaches_along}
use Rattle.bfs_model.proofs.WellFormed.Changes.{read_kept, parent_other, settle, reparent}
use Rattle.bfs_model.proofs.WellFormed.Walks.{not_below}
use Rattle.bfs_model.proofs.WellFormed.Steps.{Alike, one_here, times-push, kind_listed, parent_listed, entries_listed, no_parent, changed_there, alike_kept, entry_added, entry_taken, firm, folder_linked, folder_unlinked}
use Rattle.bfs_model.proofs.WellFormed.Named.{held_there, bare_of}
use Rattle.bfs_model.proofs.WellFormed.Facts.{named_at_least, root_unnamed, holder, childless}
use Rattle.bfs_model.proofs.WellFormed.Effects.{added_kind, added_entries, taken_kind, taken_entries, removed_keeps, removed_directory_keeps}

-- What steps leave of directories ----------------------------------------------------------------------------------------

-- whether it is a directory, and the one above
abbrev view : Option Inode → Bool × Option ℕ
view o = (is_directory o, parent_at o)

pair : {A B : Type 0} (a b : A) (c d : B) → a ≡ b → c ≡ d → ◌≡◌ {A = A × B} (a, c) (b, d)
pair a b c d p q = cc

changed_read : {A : Type 0} (F : Option Inode → A) (m : Inodes) (k : ℕ) (f : Inode → Inode) → ((x : Inode) → F (Some (f x)) ≡ F (Some x)) → (q : ℕ) → F (get (changed m k f) q) ≡ F (get m q)
unfolding changed
changed_read F m k f same q = by_there (get m k) refl
  where
    by_there : (o : Option Inode) → get m k ≡ o → F (get (option_map_or (λ inode. insert m k (f inode)) o m) q) ≡ F (get m q)
    by_there None absent = refl
    by_there (Some x) there = read_kept F m k (Some (f x)) (same x ∙ ap F (sym there)) q

link_lost_view : (m : Inodes) (now : Time) (k q : ℕ) → (k ≡ q → ⊥) → view (get (link_lost m now k) q) ≡ view (get m q)
unfolding link_lost
link_lost_view m now k q apart = by_there (get m k)
  where
    by_count : (x : Inode) (b : Bool) → view (get (cond b (remove m k) (insert m k (with_link_less now x))) q) ≡ view (get m q)
    by_count x true = ap view (get-set_other m k None q apart)
    by_count x false = ap view (get-set_other m k (Some (with_link_less now x)) q apart)

    by_there : (o : Option Inode) → view (get (option_map_or (link_lost_of m now k) o m) q) ≡ view (get m q)
    by_there None = refl
    by_there (Some x) = by_count x (leb x.links 1)

taken_view : (now : Time) (name : List ℕ) (x : Inode) → view (Some (without_entry now name x)) ≡ view (Some x)
taken_view now name x = pair _ _ _ _ (taken_kind now name x) (parent_listed (λ l. record l { entries = without_name name l.entries }) x.body (λ l. refl))

added_view : (now : Time) (e : Entry) (x : Inode) → view (Some (with_entry now e x)) ≡ view (Some x)
added_view now e x = pair _ _ _ _ (added_kind now e x) (parent_listed (λ l. record l { entries = l.entries ++ e ∷ [] }) x.body (λ l. refl))

-- what an entry that goes names, as RENAME sees it
abbrev named_by : Entry → Inode → Replaced
named_by e y = record { id = e.child; is_directory = is_directory_body y.body; has_entries = has_entries y.body }

lost_view : (m : Inodes) (c : Context) (d k q : ℕ) (b : Bool) → (k ≡ q → ⊥) → view (get (name_lost m c d k b) q) ≡ view (get m q)
lost_view m c d k q true apart = changed_read view (remove m k) d (with_link_less c.time) (λ x. refl) q ∙ ap view (get-set_other m k None q apart)
lost_view m c d k q false apart = link_lost_view m c.time k q apart

cleared_view : (m : Inodes) (c : Context) (d : ℕ) (name : List ℕ) (k : Replaced) (q : ℕ) → (k.id ≡ q → ⊥) → view (get (name_cleared m c d name (Some k)) q) ≡ view (get m q)
cleared_view m c d name k q apart = lost_view (changed m d (without_entry c.time name)) c d k.id q k.is_directory apart ∙ changed_read view m d (without_entry c.time name) (taken_view c.time name) q

view_parent : (m n : Inodes) (q : ℕ) → view (get n q) ≡ view (get m q) → parent_of n q ≡ parent_of m q
view_parent m n q same = ap (λ (v : Bool × Option ℕ). cond (eqb q root_id) None v.1) same

view_kind : (m n : Inodes) (q : ℕ) → view (get n q) ≡ view (get m q) → is_directory (get n q) ≡ is_directory (get m q)
view_kind m n q same = ap (λ (v : Bool × Option ℕ). v.0) same

folder_there : (o : Option Inode) → IsTrue (is_directory o) → (x : Inode) × (o ≡ Some x) × IsTrue (is_directory_body x.body)
folder_there None is = absurd cc
folder_there (Some x) is = (x, refl, is)

-- The steps ------------------------------------------------------------------------------------------------------------

pub changed_kept : {m : Inodes} {owed spare more less : ℕ → ℕ} {loose : ℕ → Bool} → Owing m owed spare more less loose → (k : ℕ) (f : Inode → Inode) → ((x : Inode) → Alike x (f x)) → Owing (changed m k f) owed spare more less loose
unfolding changed
changed_kept {m} {owed} {spare} {more} {less} {loose} w k f alike = by_there (get m k) refl
  where
    by_there : (o : Option Inode) → get m k ≡ o → Owing (option_map_or (λ inode. insert m k (f inode)) o m) owed spare more less loose
    by_there None absent = w
    by_there (Some x) there = alike_kept w k x (f x) there (alike x)

-- the entry that has the new name goes, with a link of what it names
cleared_keeps : {m : Inodes} {owed : ℕ → ℕ} {loose : ℕ → Bool} → Owing m owed nothing nothing nothing loose → (c : Context) (d : ℕ) (x : Inode) (name : List ℕ) (e : Entry) (y : Inode)
    → get m d ≡ Some x → IsTrue (is_directory_body x.body) → entry_named name (entries_in x.body) ≡ Some e → get m e.child ≡ Some y → entries_in y.body ≡ []
    → (IsTrue (is_directory_body y.body) → (e.child ≡ root_id → ⊥) × (parent_of m e.child ≡ Some d) × ((q : ℕ) → parent_of m q ≡ Some e.child → ⊥))
    → Owing (name_cleared m c d name (Some (named_by e y))) owed nothing nothing nothing loose
cleared_keeps {m} {owed} {loose} w c d x name e y there folder found here bare can =
    subst (λ n. Owing (name_lost n c d e.child (is_directory_body y.body)) owed nothing nothing nothing loose) (sym (changed_there m d (without_entry c.time name) x there)) (by_kind (is_directory_body y.body) refl)
  where
    by_kind : (b : Bool) → is_directory_body y.body ≡ b → Owing (name_lost (insert m d (without_entry c.time name x)) c d e.child b) owed nothing nothing nothing loose
    by_kind true is = let facts = can is in removed_directory_keeps w d x c.time name e y there folder found here is bare facts.0 facts.1 facts.2
    by_kind false is = removed_keeps w d x c.time name e y there folder found here is

cut_parts : (above : ℕ → Option ℕ) (k q p : ℕ) → cut above k q ≡ Some p → (k ≡ q → ⊥) × (above q ≡ Some p)
cut_parts above k q p up = by_key (eqb q k) refl up
  where
    by_key : (b : Bool) → eqb q k ≡ b → cond b None (above q) ≡ Some p → (k ≡ q → ⊥) × (above q ≡ Some p)
    by_key true is at = absurd cc
    by_key false is at = (λ same. eqb-false q k is (sym same), at)

raised_parent_in : (to : ℕ) (f : Listing → Listing) (b : Body) → ((l : Listing) → (f l).parent ≡ to) → IsTrue (is_directory_body b) → parent_in (with_listing f b) ≡ Some to
raised_parent_in to f (file bytes) is folder = absurd cc
raised_parent_in to f (directory listing) is folder = ap Some (is listing)
raised_parent_in to f (link path) is folder = absurd cc

raised_parent : (to : ℕ) (x : Inode) → IsTrue (is_directory_body x.body) → parent_in (with_parent to x).body ≡ Some to
raised_parent to x folder = raised_parent_in to (λ l. record l { parent = to }) x.body (λ l. refl) folder

raised_keeps : {m : Inodes} {owed : ℕ → ℕ} {loose : ℕ → Bool} → Owing m owed nothing nothing nothing loose → (from to k : ℕ) (x : Inode) → get m k ≡ Some x
    → (k ≡ root_id → ⊥) → IsTrue (is_directory_body x.body) → parent_of m k ≡ Some from → IsTrue (loose k) → ReachesRoot (cut (parent_of m) k) to
    → Owing (insert m k (with_parent to x)) owed nothing (λ c. 0 + one from c) (λ c. 0 + one to c) loose
raised_keeps {m} w from to k x there not_root folder below free way =
    let y : Inode = with_parent to x in
    let raised : Listing → Listing = λ l. record l { parent = to } in
    let kind : is_directory_body y.body ≡ is_directory_body x.body = kind_listed raised x.body in
    let entries : entries_in y.body ≡ entries_in x.body = entries_listed raised (λ es. es) x.body (λ l. refl) folder in
    reparent w k (Some y) to not_root (ap is_directory there ∙ folder) (kind ∙ folder) (entries ∙ ap entries_at (sym there)) (ap (λ b. cond b x.links 0) kind ∙ ap links_at (sym there)) (raised_parent to x folder) free
    (reaches_along (cut (parent_of m) k) (parent_of (insert m k y)) (λ q. Unit {0}) (λ q p good up. let parts = cut_parts (parent_of m) k q p up in inl (parent_other m k (Some y) q parts.0 ∙ parts.1, tt)) to way tt)
    (λ c. let hits : hit (parent_of m k) c ≡ one from c = ap (λ p. hit p c) below in omega arith)

changed_linked : {m : Inodes} {owed spare more less : ℕ → ℕ} {loose : ℕ → Bool} → Owing m owed spare more less loose → (k : ℕ) (now : Time) → IsTrue (is_directory (get m k))
    → Owing (changed m k (with_link now)) owed spare (λ c. more c + one k c) less loose
changed_linked {m} {owed} {spare} {more} {less} {loose} w k now folder =
    let x = folder_there (get m k) folder in
    subst (λ n. Owing n owed spare (λ c. more c + one k c) less loose) (sym (changed_there m k (with_link now) x.0 x.1)) (folder_linked w k x.0 now x.1 x.2)

changed_unlinked : {m : Inodes} {owed spare more less : ℕ → ℕ} {loose : ℕ → Bool} → Owing m owed spare more less loose → (k : ℕ) (now : Time) → IsTrue (is_directory (get m k)) → less k ≡ 0
    → Owing (changed m k (with_link_less now)) owed spare more (λ c. less c + one k c) loose
changed_unlinked {m} {owed} {spare} {more} {less} {loose} w k now folder even =
    let x = folder_there (get m k) folder in
    let folders : under m k + own (get m k) + more k ≡ links_at (get m k) + less k = w.folders k in
    let owns : own (get m k) ≡ 2 = ap (λ b. cond b 2 0) folder in
    let links : links_at (get m k) ≡ x.0.links = ap links_at x.1 ∙ cond-true (is_directory_body x.0.body) x.0.links 0 x.2 in
    subst (λ n. Owing n owed spare more (λ c. less c + one k c) loose) (sym (changed_there m k (with_link_less now) x.0 x.1)) (folder_unlinked w k x.0 now x.1 x.2 (omega arith))

changed_added : {m : Inodes} {owed spare more less : ℕ → ℕ} {loose : ℕ → Bool} → Owing m owed spare more less loose → (d : ℕ) (now : Time) (e : Entry) → IsTrue (is_directory (get m d))
    → Owing (changed m d (with_entry now e)) owed (λ c. spare c + one e.child c) more less loose
changed_added {m} {owed} {spare} {more} {less} {loose} w d now e folder =
    let x = folder_there (get m d) folder in
    subst (λ n. Owing n owed (λ c. spare c + one e.child c) more less loose) (sym (changed_there m d (with_entry now e) x.0 x.1)) (entry_added w d x.0 now e x.1 x.2)

-- a directory comes from below one directory to below another
moved_keeps : {m : Inodes} {owed : ℕ → ℕ} {loose : ℕ → Bool} → Owing m owed nothing nothing nothing loose → (c : Context) (from to k : ℕ)
    → (k ≡ root_id → ⊥) → IsTrue (is_directory (get m k)) → IsTrue (is_directory (get m from)) → IsTrue (is_directory (get m to)) → parent_of m k ≡ Some from → IsTrue (loose k)
    → ReachesRoot (cut (parent_of m) k) to → Owing (moved_below m c from to k true) owed nothing nothing nothing loose
moved_keeps {m} {owed} {loose} w c from to k not_root folder from_folder to_folder below free way =
    let x = folder_there (get m k) folder in
    let m1 : Inodes = changed m k (with_parent to) in
    let m2 : Inodes = changed m1 to (with_link c.time) in
    let w1 : Owing m1 owed nothing (λ q. 0 + one from q) (λ q. 0 + one to q) loose =
    subst (λ n. Owing n owed nothing (λ q. 0 + one from q) (λ q. 0 + one to q) loose) (sym (changed_there m k (with_parent to) x.0 x.1)) (raised_keeps w from to k x.0 x.1 not_root x.2 below free way) in
    let kinds : (q : ℕ) → is_directory (get m1 q) ≡ is_directory (get m q) = changed_read is_directory m k (with_parent to) (λ y. kind_listed (λ l. record l { parent = to }) y.body) in
    let w2 : Owing m2 owed nothing (λ q. 0 + one from q) nothing loose = settle (changed_linked w1 to c.time (kinds to ∙ to_folder)) (λ q. refl) (λ q. omega arith) (λ c p up is_firm was. absurd cc) in
    let w3 = changed_unlinked w2 from c.time (changed_read is_directory m1 to (with_link c.time) (λ y. refl) from ∙ kinds from ∙ from_folder) refl in
    settle w3 (λ q. refl) (λ q. omega arith) (λ c p up is_firm was. absurd cc)

moved_kind : (m : Inodes) (c : Context) (from to k q : ℕ) (b : Bool) → is_directory (get (moved_below m c from to k b) q) ≡ is_directory (get m q)
moved_kind m c from to k q false = refl
moved_kind m c from to k q true =
    let m1 : Inodes = changed m k (with_parent to) in
    let m2 : Inodes = changed m1 to (with_link c.time) in
    changed_read is_directory m2 from (with_link_less c.time) (λ x. refl) q ∙ changed_read is_directory m1 to (with_link c.time) (λ x. refl) q
    ∙ changed_read is_directory m k (with_parent to) (λ x. kind_listed (λ l. record l { parent = to }) x.body) q

moved_parent : (m : Inodes) (c : Context) (from to k : ℕ) → (k ≡ root_id → ⊥) → IsTrue (is_directory (get m k)) → parent_of (moved_below m c from to k true) k ≡ Some to
moved_parent m c from to k not_root folder =
    let m1 : Inodes = changed m k (with_parent to) in
    let m2 : Inodes = changed m1 to (with_link c.time) in
    let there = folder_there (get m k) folder in
    let yk : Inode = with_parent to there.0 in
    let at_k : parent_at (get (changed m k (with_parent to)) k) ≡ Some to = ap (λ n. parent_at (get n k)) (changed_there m k (with_parent to) there.0 there.1) ∙ ap parent_at (get-set_here m k (Some yk)) ∙ raised_parent to there.0 there.2 in
    let last : parent_at (get (changed m2 from (with_link_less c.time)) k) ≡ Some to = changed_read parent_at m2 from (with_link_less c.time) (λ x. refl) k ∙ changed_read parent_at m1 to (with_link c.time) (λ x. refl) k ∙ at_k in
    cond-false (eqb k root_id) None (parent_at (get (changed m2 from (with_link_less c.time)) k)) (ne_eqb k root_id not_root) ∙ last

-- Names of one directory -------------------------------------------------------------------------------------------------

behind : (t : Bool) (d e : Entry) (later : Option Entry) → cond t (Some d) later ≡ Some e → (d.child ≡ e.child → ⊥) → later ≡ Some e
behind true d e later at apart = absurd (apart (ap (λ (x : Entry). x.child) (same_Some d e at)))
behind false d e later at apart = at

in_front : (t : Bool) (d e : Entry) (later fewer : Option Entry) → cond t (Some d) later ≡ Some e → (later ≡ Some e → fewer ≡ Some e) → cond t (Some d) fewer ≡ Some e
in_front true d e later fewer at rest = at
in_front false d e later fewer at rest = rest at

still_there : (other : List ℕ) (b : Bool) (d c e : Entry) (es fewer : List Entry) (rest : Option Entry) → cond b (Some d) rest ≡ Some c → entry_named other (d ∷ es) ≡ Some e → (c.child ≡ e.child → ⊥)
    → (rest ≡ Some c → entry_named other es ≡ Some e → entry_named other fewer ≡ Some e) → entry_named other (cond b es (d ∷ fewer)) ≡ Some e
still_there other true d c e es fewer rest is at apart inner = behind (bytes_eq d.name other) d e (entry_named other es) at (λ same. apart (ap (λ (x : Entry). x.child) (sym (same_Some d c is)) ∙ same))
still_there other false d c e es fewer rest is at apart inner = in_front (bytes_eq d.name other) d e (entry_named other es) (entry_named other fewer) at (inner is)

-- an entry of another child is still found
found_still : (name other : List ℕ) (es : List Entry) (c e : Entry) → entry_named name es ≡ Some c → entry_named other es ≡ Some e → (c.child ≡ e.child → ⊥) → entry_named other (without_name name es) ≡ Some e
found_still name other [] c e found at apart = at
found_still name other (d ∷ es) c e found at apart =
    still_there other (bytes_eq d.name name) d c e es (without_name name es) (entry_named name es) found at apart (λ rest later. found_still name other es c e rest later apart)

-- The whole ------------------------------------------------------------------------------------------------------------

-- nothing has the new name, or an entry of another inode, which has no entries
data CanGo (m : Inodes) (name : List ℕ) (entries : List Entry) (moved : ℕ) : Option Replaced → Type 0 where
  none_goes : CanGo m name entries moved None
  goes : {e : Entry} (y : Inode) → entry_named name entries ≡ Some e → get m e.child ≡ Some y → (e.child ≡ moved → ⊥) → entries_in y.body ≡ [] → CanGo m name entries moved (Some (named_by e y))

-- whether an inode goes with the entry that has the new name
abbrev Gone : Option Replaced → (id : ℕ) → Type 0
Gone None id = ⊥
Gone (Some k) id = k.id ≡ id

-- what has an entry is not what has none
holds_not : (m : Inodes) (d k : ℕ) (x y : Inode) (name : List ℕ) (c : Entry) → get m d ≡ Some x → entry_named name (entries_in x.body) ≡ Some c → get m k ≡ Some y → entries_in y.body ≡ [] → k ≡ d → ⊥
holds_not m d k x y name c there found here bare is =
    let none : entries_in x.body ≡ [] = ap entries_at (sym there ∙ ap (get m) (sym is) ∙ here) ∙ bare in
    let not_found : entry_named name (entries_in x.body) ≡ None = ap (entry_named name) none in
    cc

plain_above : (x : Inode) (b : Bool) (p : ℕ) → cond b None (parent_in x.body) ≡ Some p → IsFalse (is_directory_body x.body) → ⊥
plain_above x true p up plain = cc
plain_above x false p up plain = let none : parent_in x.body ≡ None = no_parent x.body plain in cc

module _ (m : Inodes) (w : WellFormed m) (c : Context) (from : Option ℕ) (from_name : List ℕ) (to : Option ℕ) (to_name : List ℕ)
    (a b : FoundDirectory) (entry : Entry) (moved : FoundInode) (at : IsRenamed m c from from_name to to_name a b entry moved) where
  abbrev k : ℕ
  k = moved.id

  abbrev taken : Inodes
  taken = changed m a.id (without_entry c.time from_name)

  abbrev cleared : Option Replaced → Inodes
  cleared old = name_cleared taken c b.id to_name old

  abbrev below : Option Replaced → (moves : Bool) → Inodes
  below old moves = moved_below (cleared old) c a.id b.id k moves

  -- a tree but for the entry to come
  abbrev IsUnnamed : Inodes → Type 0
  IsUnnamed n = Owing n (λ q. 0 + one k q) nothing nothing nothing (λ q. eqb k q || false)

  abbrev Goes : Option Replaced → Type 0
  Goes old = CanGo m to_name (entries_in b.inode.body) k old

  -- a directory comes below another one only where that is not below it
  abbrev CanMove : (moves : Bool) → Type 0
  CanMove true = IsTrue (is_directory_body moved.inode.body) × ReachesRoot (cut (parent_of m) k) b.id
  CanMove false = IsTrue (is_directory_body moved.inode.body) → a.id ≡ b.id

  from_folder : IsTrue (is_directory_body a.inode.body)
  from_folder = ap is_directory_body at.from_at.holds

  to_folder : IsTrue (is_directory_body b.inode.body)
  to_folder = ap is_directory_body at.to_at.holds

  found : entry_named from_name (entries_in a.inode.body) ≡ Some entry
  found = ap (λ body. entry_named from_name (entries_in body)) at.from_at.holds ∙ at.named

  taken_is : taken ≡ insert m a.id (without_entry c.time from_name a.inode)
  taken_is = changed_there m a.id (without_entry c.time from_name) a.inode at.from_at.there

  taken_owing : IsUnnamed taken
  taken_owing = subst IsUnnamed (sym taken_is)
      (subst (λ j. Owing (insert m a.id (without_entry c.time from_name a.inode)) (λ q. 0 + one j q) nothing nothing nothing (λ q. eqb j q || false)) (sym at.is)
      (entry_taken w a.id a.inode c.time from_name entry at.from_at.there from_folder found))

  taken_same : (q : ℕ) → view (get taken q) ≡ view (get m q)
  taken_same q = changed_read view m a.id (without_entry c.time from_name) (taken_view c.time from_name) q

  taken_other : (q : ℕ) → (a.id ≡ q → ⊥) → get taken q ≡ get m q
  taken_other q other = ap (λ n. get n q) taken_is ∙ get-set_other m a.id (Some (without_entry c.time from_name a.inode)) q other

  held_before : 1 ≤ times k (entries_at (get m a.id))
  held_before = subst (λ j. 1 ≤ times j (entries_at (get m a.id))) (sym at.is) (held_there m a.id a.inode from_name entry at.from_at.there found)

  moved_not_root : k ≡ root_id → ⊥
  moved_not_root = let held = held_before in let least = named_at_least m a.id k in root_unnamed m w k (omega arith)

  -- the entry that has the new name is still found, where both are in one directory too
  to_taken : (e : Entry) → entry_named to_name (entries_in b.inode.body) ≡ Some e → (e.child ≡ k → ⊥)
      → (y : Inode) × (get taken b.id ≡ Some y) × IsTrue (is_directory_body y.body) × (entry_named to_name (entries_in y.body) ≡ Some e)
  to_taken e has apart =
      elim (cases_eq a.id b.id) [
        | inl is ↦
            let y : Inode = without_entry c.time from_name a.inode in
            let same : entries_in b.inode.body ≡ entries_in a.inode.body = ap entries_at (sym at.to_at.there ∙ ap (get m) (sym is) ∙ at.from_at.there) in
            let still : entry_named to_name (without_name from_name (entries_in a.inode.body)) ≡ Some e =
            found_still from_name to_name (entries_in a.inode.body) entry e found (subst (λ es. entry_named to_name es ≡ Some e) same has) (λ equal. apart (sym equal ∙ sym at.is)) in (
              y,
              subst (λ q. get taken q ≡ Some y) is (ap (λ n. get n a.id) taken_is ∙ get-set_here m a.id (Some y)),
              taken_kind c.time from_name a.inode ∙ from_folder,
              subst (λ es. entry_named to_name es ≡ Some e) (sym (taken_entries c.time from_name a.inode from_folder)) still,
            )
        | inr other ↦ (b.inode, taken_other b.id other ∙ at.to_at.there, to_folder, has)
      ]

  cleared_owing : {old : Option Replaced} → Goes old → IsUnnamed (cleared old)
  cleared_owing none_goes = taken_owing
  cleared_owing (goes {e} y has there apart bare) =
      let in_it = to_taken e has apart in
      let still : get taken e.child ≡ Some y = taken_other e.child (λ is. holds_not m a.id e.child a.inode y from_name entry at.from_at.there found there bare (sym is)) ∙ there in
      let held : 1 ≤ times e.child (entries_at (get m b.id)) = held_there m b.id b.inode to_name e at.to_at.there has in
      let least : times e.child (entries_at (get m b.id)) ≤ named m e.child = named_at_least m b.id e.child in
      cleared_keeps taken_owing c b.id in_it.0 to_name e y in_it.1 in_it.2 in_it.3 still bare (λ is. (
        root_unnamed m w e.child (omega arith),
        view_parent m taken e.child (taken_same e.child) ∙ holder m w b.id e.child y there is held,
        λ q up. childless m w e.child (ap entries_at there ∙ bare) q (sym (view_parent m taken q (taken_same q)) ∙ up),
      ))

  cleared_same : (old : Option Replaced) (q : ℕ) → (Gone old q → ⊥) → view (get (cleared old) q) ≡ view (get m q)
  cleared_same None q stays = taken_same q
  cleared_same (Some gone) q stays = cleared_view taken c b.id to_name gone q stays ∙ taken_same q

  -- the directories and what is moved stay
  from_stays : {old : Option Replaced} → Goes old → Gone old a.id → ⊥
  from_stays none_goes gone = gone
  from_stays (goes {e} y has there apart bare) gone = holds_not m a.id e.child a.inode y from_name entry at.from_at.there found there bare gone

  to_stays : {old : Option Replaced} → Goes old → Gone old b.id → ⊥
  to_stays none_goes gone = gone
  to_stays (goes {e} y has there apart bare) gone = holds_not m b.id e.child b.inode y to_name e at.to_at.there has there bare gone

  moved_stays : {old : Option Replaced} → Goes old → Gone old k → ⊥
  moved_stays none_goes gone = gone
  moved_stays (goes y has there apart bare) gone = apart gone

  -- nothing is below what goes
  parents_stay : {old : Option Replaced} → Goes old → (q p : ℕ) → parent_of m q ≡ Some p → Gone old p → ⊥
  parents_stay none_goes q p up gone = gone
  parents_stay (goes {e} y has there apart bare) q p up gone = childless m w e.child (ap entries_at there ∙ bare) q (up ∙ ap Some (sym gone))

  module _ (old : Option Replaced) (go : Goes old) where
    to_same : is_directory (get (cleared old) b.id) ≡ true
    to_same = view_kind m (cleared old) b.id (cleared_same old b.id (to_stays go)) ∙ ap is_directory at.to_at.there ∙ to_folder

    moved_same : view (get (cleared old) k) ≡ view (get m k)
    moved_same = cleared_same old k (moved_stays go)

    moved_folder : IsTrue (is_directory_body moved.inode.body) → IsTrue (is_directory (get (cleared old) k))
    moved_folder is = view_kind m (cleared old) k moved_same ∙ ap is_directory at.there ∙ is

    way_stays : ReachesRoot (cut (parent_of m) k) b.id → ReachesRoot (cut (parent_of (cleared old)) k) b.id
    way_stays way =
        reaches_along (cut (parent_of m) k) (cut (parent_of (cleared old)) k) (λ q. Gone old q → ⊥)
        (λ q p stays up. inl (ap (cond (eqb q k) None) (view_parent m (cleared old) q (cleared_same old q stays)) ∙ up, parents_stay go q p (cut_parts (parent_of m) k q p up).1))
        b.id way (to_stays go)

    below_owing : (moves : Bool) → CanMove moves → IsUnnamed (below old moves)
    below_owing false move = cleared_owing go
    below_owing true move =
        moved_keeps (cleared_owing go) c a.id b.id k moved_not_root (moved_folder move.0)
        (view_kind m (cleared old) a.id (cleared_same old a.id (from_stays go)) ∙ ap is_directory at.from_at.there ∙ from_folder)
        to_same (view_parent m (cleared old) k moved_same ∙ holder m w a.id k moved.inode at.there move.0 held_before)
        (ap (λ t. t || false) (eq-eqb k k refl)) (way_stays move.1)

    -- what is moved is below the directory that it comes to, if it is a directory
    moved_below_to : (moves : Bool) → CanMove moves → (p : ℕ) → parent_of (below old moves) k ≡ Some p → p ≡ b.id
    moved_below_to false move p up =
        let before : parent_of m k ≡ Some p = sym (view_parent m (cleared old) k moved_same) ∙ up in
        elim (cases_Bool (is_directory_body moved.inode.body)) [
          | inl is ↦ same_Some p a.id (sym before ∙ holder m w a.id k moved.inode at.there is held_before) ∙ move is
          | inr is ↦ absurd (plain_above moved.inode (eqb k root_id) p (ap (above k) (sym at.there) ∙ before) is)
        ]
    moved_below_to true move p up = same_Some p b.id (sym up ∙ moved_parent (cleared old) c a.id b.id k moved_not_root (moved_folder move.0))

    named_keeps : (moves : Bool) → CanMove moves → WellFormed (changed (below old moves) b.id (with_name c to_name k))
    named_keeps moves move =
        let e : Entry = entry_made c to_name k in
        let before : Inodes = below old moves in
        let after : Inodes = changed before b.id (with_entry c.time e) in
        let folder : IsTrue (is_directory (get before b.id)) = moved_kind (cleared old) c a.id b.id k b.id moves ∙ to_same in
        let settled : Owing after nothing nothing nothing nothing (λ q. eqb k q || none_loose q) =
        settle (changed_added (below_owing moves move) b.id c.time e folder) (λ q. omega arith) (λ q. refl) (λ q p up is_firm was. absurd cc) in
        let dir = folder_there (get before b.id) folder in
        let entries : entries_at (get after b.id) ≡ entries_in dir.0.body ++ e ∷ [] =
        ap (λ n. entries_at (get n b.id)) (changed_there before b.id (with_entry c.time e) dir.0 dir.1) ∙ ap entries_at (get-set_here before b.id (Some (with_entry c.time e dir.0))) ∙ added_entries c.time e dir.0 dir.2 in
        let held : 1 ≤ times k (entries_at (get after b.id)) =
        let counts : times k (entries_at (get after b.id)) ≡ times k (entries_in dir.0.body ++ e ∷ []) = ap (times k) entries in
        let more = times-push k (entries_in dir.0.body) e in
        let itself = one_here k in
        omega arith in
        firm k settled (λ p up.
        let up_before : parent_of before k ≡ Some p = sym (view_parent before after k (changed_read view before b.id (with_entry c.time e) (added_view c.time e) k)) ∙ up in
        subst (λ q. 1 ≤ times k (entries_at (get after q))) (sym (moved_below_to moves move p up_before)) held)

  can_go : {existing : Option Entry} {replaced : Option Replaced} → entry_named to_name b.listing.entries ≡ existing → IsOnto m moved existing replaced → onto_entries (renaming_of a b moved replaced) ≡ false → Goes replaced
  can_go has onto_none empty = none_goes
  can_go has (onto_entry y apart there) empty = goes y (ap (λ body. entry_named to_name (entries_in body)) at.to_at.holds ∙ has) there apart (bare_of y.body empty)

  -- by whether what is moved is a directory, and whether it stays in its directory
  can_move : (is_folder same : Bool) → is_directory_body moved.inode.body ≡ is_folder → (a.id == b.id) ≡ same → ((is_folder && not same) && is_below m b.id k) ≡ false → CanMove (is_folder && not same)
  can_move true true is equal passed = λ folder. eqb-true a.id b.id equal
  can_move true false is equal passed = (is, not_below m w b.id k (ap is_directory at.to_at.there ∙ to_folder) passed)
  can_move false same is equal passed = λ folder. absurd cc

  pub renamed_keeps : (replaced : Option Replaced) (allowed : ⊤) → IsOnto m moved (entry_named to_name b.listing.entries) replaced → checked (renaming_refusals m c (renaming_of a b moved replaced)) ≡ Ok allowed
      → WellFormed (renamed m c from_name to_name (renaming_of a b moved replaced))
  renamed_keeps replaced allowed onto passed =
      let r : Renaming = renaming_of a b moved replaced in
      let rows : List (Bool × Status) = renaming_refusals m c r in
      let go = can_go refl onto (fails (onto_entries r) rows allowed passed (search (inl, inr) depth 9)) in
      let move = can_move r.is_directory (r.from == r.to) refl refl (fails (moves_directory r && is_below m r.to r.moved) rows allowed passed (search (inl, inr) depth 9)) in
      changed_kept (named_keeps replaced go (moves_directory r) move) k (with_ctime c.time) (λ y. record { links = refl; kind = refl; parent = refl; entries = refl })
