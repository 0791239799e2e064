-- What CREATE, SYMLINK, MKDIR, LINK, REMOVE and RMDIR do to the inodes keeps a tree.
use Rattle.std.proofs.Common.{◌≡◌, ℕ, ◌+◌, ◌≤◌, Bool, true, false, cond, ◌||◌, eqb, IsTrue, IsFalse, List, [], ◌∷◌, ◌++◌, Some, None, refl, sym, ap, subst, ◌∙◌, arith}
use Rattle.std.specs.FinMap.{get, insert, remove}
use Rattle.std.proofs.lemmas.Bool.{ne_eqb, cond-true, cond-false}
use Rattle.std.proofs.lemmas.Option.{same_Some}
use Rattle.bfs_model.specs.Server.Tree.{Time, Entry, Inode, Inodes, root_id, is_directory_body, is_directory, entries_in, entries_at, parent_in, parent_at, parent_of}
use Rattle.bfs_model.specs.Server.Directories.{entry_named, without_name}
use Rattle.bfs_model.specs.Server.Changes.{with_entry, without_entry, with_link, with_link_less, changed, link_lost}
use Rattle.bfs_model.specs.Server.WellFormed.{times, named}
use Rattle.bfs_model.proofs.WellFormed.Sums.{only, one, hit, under, due, links_at, own, Owing, WellFormed, nothing, none_loose, get-set_here, get-set_other}
use Rattle.bfs_model.proofs.WellFormed.Changes.{parents_kept, due_of_directory, settle, appear, vanish}
use Rattle.bfs_model.proofs.WellFormed.Steps.{one_here, times-push, kind_listed, parent_listed, entries_listed, no_entries, no_parent, file_due, changed_there, insert_again, entry_added, entry_taken, firm_file, link_gained, link_gone, folder_linked, folder_unlinked}
use Rattle.bfs_model.proofs.WellFormed.Facts.{childless_under}

-- What an entry more or less leaves of a directory -------------------------------------------------------------------------

pub added_kind : (now : Time) (e : Entry) (x : Inode) → is_directory_body (with_entry now e x).body ≡ is_directory_body x.body
added_kind now e x = kind_listed (λ l. record l { entries = l.entries ++ e ∷ [] }) x.body

pub added_entries : (now : Time) (e : Entry) (x : Inode) → IsTrue (is_directory_body x.body) → entries_in (with_entry now e x).body ≡ entries_in x.body ++ e ∷ []
added_entries now e x folder = entries_listed (λ l. record l { entries = l.entries ++ e ∷ [] }) (λ es. es ++ e ∷ []) x.body (λ l. refl) folder

pub taken_kind : (now : Time) (name : List ℕ) (x : Inode) → is_directory_body (without_entry now name x).body ≡ is_directory_body x.body
taken_kind now name x = kind_listed (λ l. record l { entries = without_name name l.entries }) x.body

pub taken_entries : (now : Time) (name : List ℕ) (x : Inode) → IsTrue (is_directory_body x.body) → entries_in (without_entry now name x).body ≡ without_name name (entries_in x.body)
taken_entries now name x folder = entries_listed (λ l. record l { entries = without_name name l.entries }) (without_name name) x.body (λ l. refl) folder

pub taken_parents : (m : Inodes) (d : ℕ) (now : Time) (name : List ℕ) (x : Inode) → get m d ≡ Some x → (c : ℕ) → parent_of (insert m d (without_entry now name x)) c ≡ parent_of m c
taken_parents m d now name x there c = parents_kept m d (Some (without_entry now name x)) (parent_listed (λ l. record l { entries = without_name name l.entries }) x.body (λ l. refl) ∙ ap parent_at (sym there)) c

pub other_there : (m : Inodes) (d k : ℕ) (x y : Inode) → get m d ≡ Some x → get m k ≡ Some y → IsTrue (is_directory_body x.body) → IsFalse (is_directory_body y.body) → d ≡ k → ⊥
other_there m d k x y there here folder plain is =
    let of_d : is_directory (get m d) ≡ true = ap is_directory there ∙ folder in
    let of_k : is_directory (get m k) ≡ false = ap is_directory here ∙ plain in
    let same : is_directory (get m d) ≡ is_directory (get m k) = ap (λ q. is_directory (get m q)) is in
    cc

absent_other : (m : Inodes) (d o : ℕ) (x : Inode) → get m d ≡ Some x → get m o ≡ None → d ≡ o → ⊥
absent_other m d o x there absent is = let same : get m d ≡ get m o = ap (get m) is in cc

-- New inodes -----------------------------------------------------------------------------------------------------------

-- CREATE and SYMLINK: a file or a symbolic link with its entry
pub created_keeps : (m : Inodes) → WellFormed m → (d : ℕ) (x : Inode) (now : Time) (e : Entry) (y : Inode) → get m d ≡ Some x → IsTrue (is_directory_body x.body)
    → get m e.child ≡ None → IsFalse (is_directory_body y.body) → y.links ≡ 1 → WellFormed (insert (insert m d (with_entry now e x)) e.child y)
created_keeps m w d x now e y there folder absent plain single =
    let o = e.child in
    let apart : d ≡ o → ⊥ = absent_other m d o x there absent in
    appear (entry_added w d x now e there folder) o y (get-set_other m d (Some (with_entry now e x)) o apart ∙ absent) (no_entries y.body plain)
    (λ p up. absurd (let none : parent_in y.body ≡ None = no_parent y.body plain in cc))
    (λ c. let dues : only o (due o (Some y)) c ≡ one o c = ap (λ n. only o n c) (file_due o y.links y.body plain ∙ single) in omega arith)
    (λ c.
    let no_hit : hit (parent_in y.body) c ≡ 0 = ap (λ p. hit p c) (no_parent y.body plain) in
    let no_own : only o (own (Some y)) c ≡ only o 0 c = ap (λ b. only o (cond b 2 0) c) plain in
    let no_links : only o (links_at (Some y)) c ≡ only o 0 c = ap (λ b. only o (cond b y.links 0) c) plain in
    omega arith)
    (λ c firm. firm)

-- MKDIR: an empty directory with its entry
pub made_directory_keeps : (m : Inodes) → WellFormed m → (d : ℕ) (x : Inode) (now : Time) (e : Entry) (y : Inode) → get m d ≡ Some x → IsTrue (is_directory_body x.body)
    → get m e.child ≡ None → IsTrue (is_directory_body y.body) → y.links ≡ 2 → entries_in y.body ≡ [] → parent_in y.body ≡ Some d
    → WellFormed (insert (insert m d (with_link now (with_entry now e x))) e.child y)
made_directory_keeps m w d x now e y there folder absent is_folder pair bare below =
    let o = e.child in
    let x1 : Inode = with_entry now e x in
    let x2 : Inode = with_link now x1 in
    let m2 : Inodes = insert m d x2 in
    let apart : d ≡ o → ⊥ = absent_other m d o x there absent in
    let not_root : o ≡ root_id → ⊥ = λ is. let none : is_directory (get m root_id) ≡ false = ap is_directory (ap (get m) (sym is) ∙ absent) in let root = w.root in cc in
    let kind : is_directory_body x2.body ≡ true = added_kind now e x ∙ folder in
    let added = entry_added w d x now e there folder in
    let linked = folder_linked added d x1 now (get-set_here m d (Some x1)) kind in
    let w2 : Owing m2 nothing (λ c. 0 + one o c) (λ c. 0 + one d c) nothing none_loose = subst (λ n. Owing n nothing (λ c. 0 + one o c) (λ c. 0 + one d c) nothing none_loose) (insert_again m d x1 x2) linked in
    let at_d : get m2 d ≡ Some x2 = get-set_here m d (Some x2) in
    appear w2 o y (get-set_other m d (Some x2) o apart ∙ absent) bare
    (λ p up.
    let is : d ≡ p = same_Some d p (sym below ∙ up) in
    subst (λ q. IsTrue (is_directory (get m2 q)) × (IsFalse (none_loose o) → 1 ≤ times o (entries_at (get m2 q)))) is (
      ap is_directory at_d ∙ kind,
      λ firm.
          let entries : times o (entries_at (get m2 d)) ≡ times o (entries_in x.body ++ e ∷ []) = ap (λ g. times o (entries_at g)) at_d ∙ ap (times o) (added_entries now e x folder) in
          let more = times-push o (entries_in x.body) e in
          let itself = one_here o in
          omega arith,
    ))
    (λ c. let dues : only o (due o (Some y)) c ≡ one o c = ap (λ n. only o n c) (due_of_directory o (Some y) is_folder ∙ ap (λ b. cond b 0 1) (ne_eqb o root_id not_root)) in omega arith)
    (λ c.
    let hits : hit (parent_in y.body) c ≡ one d c = ap (λ p. hit p c) below in
    let owns : only o (own (Some y)) c ≡ only o 2 c = ap (λ b. only o (cond b 2 0) c) is_folder in
    let links : only o (links_at (Some y)) c ≡ only o 2 c = ap (λ b. only o (cond b y.links 0) c) is_folder ∙ ap (λ n. only o n c) pair in
    omega arith)
    (λ c firm. firm)

-- LINK: an entry and a link more
pub linked_keeps : (m : Inodes) → WellFormed m → (d : ℕ) (x : Inode) (now : Time) (e : Entry) (y : Inode) → get m d ≡ Some x → IsTrue (is_directory_body x.body)
    → get m e.child ≡ Some y → IsFalse (is_directory_body y.body) → WellFormed (changed (insert m d (with_entry now e x)) e.child (with_link now))
linked_keeps m w d x now e y there folder here plain =
    let k = e.child in
    let m1 : Inodes = insert m d (with_entry now e x) in
    let still : get m1 k ≡ Some y = get-set_other m d (Some (with_entry now e x)) k (other_there m d k x y there here folder plain) ∙ here in
    let w2 = link_gained (entry_added w d x now e there folder) k y now still plain in
    subst WellFormed (sym (changed_there m1 k (with_link now) y still)) (settle w2 (λ c. omega arith) (λ c. refl) (λ c p up firm was. absurd cc))

-- Inodes gone ----------------------------------------------------------------------------------------------------------

-- REMOVE: an entry and a link less
pub removed_keeps : {m : Inodes} {owed : ℕ → ℕ} {loose : ℕ → Bool} → Owing m owed nothing nothing nothing loose → (d : ℕ) (x : Inode) (now : Time) (name : List ℕ) (e : Entry) (y : Inode)
    → get m d ≡ Some x → IsTrue (is_directory_body x.body) → entry_named name (entries_in x.body) ≡ Some e → get m e.child ≡ Some y → IsFalse (is_directory_body y.body)
    → Owing (link_lost (insert m d (without_entry now name x)) now e.child) owed nothing nothing nothing loose
removed_keeps {m} {owed} {loose} w d x now name e y there folder found here plain =
    let k = e.child in
    let m1 : Inodes = insert m d (without_entry now name x) in
    let still : get m1 k ≡ Some y = get-set_other m d (Some (without_entry now name x)) k (other_there m d k x y there here folder plain) ∙ here in
    let w1 = firm_file k (entry_taken w d x now name e there folder found) (ap is_directory still ∙ plain) in
    let names : named m1 k + (owed k + one k k) ≡ due k (get m1 k) + 0 = w1.names k in
    let dues : due k (get m1 k) ≡ y.links = ap (due k) still ∙ file_due k y.links y.body plain in
    let itself = one_here k in
    settle (link_gone w1 k y now still plain (omega arith) refl) (λ c. omega arith) (λ c. refl) (λ c p up firm was. absurd cc)

-- RMDIR: an entry, the directory that it names, and a link of the directory less
pub removed_directory_keeps : {m : Inodes} {owed : ℕ → ℕ} {loose : ℕ → Bool} → Owing m owed nothing nothing nothing loose → (d : ℕ) (x : Inode) (now : Time) (name : List ℕ) (e : Entry) (y : Inode)
    → get m d ≡ Some x → IsTrue (is_directory_body x.body) → entry_named name (entries_in x.body) ≡ Some e → get m e.child ≡ Some y → IsTrue (is_directory_body y.body) → entries_in y.body ≡ []
    → (e.child ≡ root_id → ⊥) → parent_of m e.child ≡ Some d → ((c : ℕ) → parent_of m c ≡ Some e.child → ⊥)
    → Owing (changed (remove (insert m d (without_entry now name x)) e.child) d (with_link_less now)) owed nothing nothing nothing loose
removed_directory_keeps {m} {owed} {loose} w d x now name e y there folder found here is_folder bare not_root below childless =
    let k = e.child in
    let x1 : Inode = without_entry now name x in
    let m1 : Inodes = insert m d x1 in
    let m2 : Inodes = remove m1 k in
    let apart : d ≡ k → ⊥ = λ is.
    let same : entries_at (get m d) ≡ entries_at (get m k) = ap (λ q. entries_at (get m q)) is in
    let none : entries_in x.body ≡ [] = ap entries_at (sym there) ∙ same ∙ ap entries_at here ∙ bare in
    let not_found : entry_named name (entries_in x.body) ≡ None = ap (entry_named name) none in
    cc in
    let still : get m1 k ≡ Some y = get-set_other m d (Some x1) k apart ∙ here in
    let parents = taken_parents m d now name x there in
    let childless_then : (c : ℕ) → parent_of m1 c ≡ Some k → ⊥ = λ c up. childless c (sym (parents c) ∙ up) in
    let w1 = entry_taken w d x now name e there folder found in
    let folders : under m1 k + own (get m1 k) + 0 ≡ links_at (get m1 k) + 0 = w1.folders k in
    let none_under : under m1 k ≡ 0 = childless_under m1 k childless_then in
    let owns : own (get m1 k) ≡ 2 = ap own still ∙ ap (λ b. cond b 2 0) is_folder in
    let pair : links_at (get m1 k) ≡ 2 = omega arith in
    let parent : parent_at (get m1 k) ≡ Some d = sym (cond-false (eqb k root_id) None (parent_at (get m1 k)) (ne_eqb k root_id not_root)) ∙ parents k ∙ below in
    let w2 : Owing m2 owed nothing (λ c. 0 + one d c) nothing loose =
    vanish w1 k not_root (ap entries_at still ∙ bare) childless_then
    (λ c. let dues : only k (due k (get m1 k)) c ≡ one k c = ap (λ n. only k n c) (due_of_directory k (get m1 k) (ap is_directory still ∙ is_folder) ∙ ap (λ b. cond b 0 1) (ne_eqb k root_id not_root)) in omega arith)
    (λ c.
    let links : only k (links_at (get m1 k)) c ≡ only k 2 c = ap (λ n. only k n c) pair in
    let its : only k (own (get m1 k)) c ≡ only k 2 c = ap (λ n. only k n c) owns in
    let hits : hit (parent_at (get m1 k)) c ≡ one d c = ap (λ p. hit p c) parent in
    omega arith)
    (λ c other firm. ap (λ b. b || loose c) (ne_eqb k c other) ∙ firm) in
    let at_d : get m2 d ≡ Some x1 = get-set_other m1 k None d (λ is. apart (sym is)) ∙ get-set_here m d (Some x1) in
    let kind : is_directory_body x1.body ≡ true = taken_kind now name x ∙ folder in
    let folders_then : under m2 d + own (get m2 d) + (0 + one d d) ≡ links_at (get m2 d) + 0 = w2.folders d in
    let owns_d : own (get m2 d) ≡ 2 = ap own at_d ∙ ap (λ b. cond b 2 0) kind in
    let links_d : links_at (get m2 d) ≡ x1.links = ap links_at at_d ∙ cond-true (is_directory_body x1.body) x1.links 0 kind in
    let w3 = folder_unlinked w2 d x1 now at_d kind (omega arith) in
    subst (λ n. Owing n owed nothing nothing nothing loose) (sym (changed_there m2 d (with_link_less now) x1 at_d)) (settle w3 (λ c. refl) (λ c. omega arith) (λ c p up firm was. absurd cc))
