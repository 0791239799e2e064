-- What each step of a procedure does to a tree but for what is owed. Each reads the inode in the map that it is given.
use Rattle.std.proofs.Common.{◌≡◌, ℕ, ◌+◌, ◌-◌, ◌≤◌, Bool, true, false, cond, ◌||◌, eqb, leb, IsTrue, IsFalse, List, [], ◌∷◌, ◌++◌, Option, Some, None, bytes_eq, refl, sym, ap, subst, ◌∙◌, arith}
use Rattle.std.specs.Option.{option_map_or}
use Rattle.std.specs.Cmp.{nat_cmp_total}
use Rattle.std.specs.FinMap.{get, insert, remove, same_map, nat_cmp-IsAntisymmetric}
use Rattle.std.proofs.lemmas.Bool.{eqb-true, eq-eqb, leb-true, cond-true, cond-false, or_parts}
use Rattle.std.proofs.lemmas.Option.{same_Some}
use Rattle.bfs_model.specs.Server.Tree.{Time, Entry, Listing, Body, file, directory, link, Inode, Inodes, root_id, is_directory_body, is_directory, entries_in, entries_at, parent_in, parent_at, parent_of}
use Rattle.bfs_model.specs.Server.Directories.{entry_named, without_name}
use Rattle.bfs_model.specs.Server.Changes.{with_listing, with_entry, without_entry, with_link, with_link_less, changed, link_lost, link_lost_of}
use Rattle.bfs_model.specs.Server.WellFormed.{times}
use Rattle.bfs_model.specs.Server.Conflicts.{set_at}
use Rattle.bfs_model.proofs.WellFormed.Sums.{only, one, above, hit, hit_none, under, due_in, due, links_at, own, Owing, get-set_at, under-set}
use Rattle.bfs_model.proofs.WellFormed.Changes.{none_either, settle, alter, vanish}

-- Numbers and bodies ---------------------------------------------------------------------------------------------------

pub only_more : (k v w c : ℕ) → only k (v + w) c ≡ only k v c + only k w c
only_more k v w c = by_key (eqb k c)
  where
    by_key : (b : Bool) → cond b (v + w) 0 ≡ cond b v 0 + cond b w 0
    by_key true = refl
    by_key false = omega arith

pub one_here : (k : ℕ) → one k k ≡ 1
one_here k = let one_is : ℕ = 1 in let none : ℕ = 0 in cond-true (eqb k k) one_is none (eq-eqb k k refl)

one_off : (n : ℕ) → 1 ≤ n → n ≡ (n - 1) + 1
one_off n least = omega arith

pub times-push : (c : ℕ) (es : List Entry) (e : Entry) → times c (es ++ e ∷ []) ≡ times c es + one e.child c
times-push c [] e = omega arith
times-push c (d ∷ es) e = let rest = times-push c es e in omega arith

taken_here : (c : ℕ) (fewer es : List Entry) (d e : Entry) (b : Bool) (rest : Option Entry) → cond b (Some d) rest ≡ Some e → (rest ≡ Some e → times c fewer + one e.child c ≡ times c es)
    → times c (cond b es (d ∷ fewer)) + one e.child c ≡ one d.child c + times c es
taken_here c fewer es d e true rest is later = let same : one d.child c ≡ one e.child c = ap (λ x. one x.child c) (same_Some d e is) in omega arith
taken_here c fewer es d e false rest is later = let known = later is in omega arith

pub times-without : (c : ℕ) (name : List ℕ) (es : List Entry) (e : Entry) → entry_named name es ≡ Some e → times c (without_name name es) + one e.child c ≡ times c es
times-without c name [] e is = absurd cc
times-without c name (d ∷ es) e is = taken_here c (without_name name es) es d e (bytes_eq d.name name) (entry_named name es) is (λ rest. times-without c name es e rest)

pub due_by_kind : (k links : ℕ) (b : Body) → due_in k links b ≡ cond (is_directory_body b) (cond (eqb k root_id) 0 1) links
due_by_kind k links (file bytes) = refl
due_by_kind k links (directory listing) = refl
due_by_kind k links (link path) = refl

pub same_due : (k v w : ℕ) (b d : Body) → v ≡ w → is_directory_body b ≡ is_directory_body d → due_in k v b ≡ due_in k w d
same_due k v w b d links kind =
    due_by_kind k v b ∙ ap (λ t. cond t (cond (eqb k root_id) 0 1) v) kind ∙ ap (cond (is_directory_body d) (cond (eqb k root_id) 0 1)) links ∙ sym (due_by_kind k w d)

pub kind_listed : (f : Listing → Listing) (b : Body) → is_directory_body (with_listing f b) ≡ is_directory_body b
kind_listed f (file bytes) = refl
kind_listed f (directory listing) = refl
kind_listed f (link path) = refl

pub parent_listed : (f : Listing → Listing) (b : Body) → ((l : Listing) → (f l).parent ≡ l.parent) → parent_in (with_listing f b) ≡ parent_in b
parent_listed f (file bytes) same = refl
parent_listed f (directory listing) same = ap Some (same listing)
parent_listed f (link path) same = refl

pub entries_listed : (f : Listing → Listing) (g : List Entry → List Entry) (b : Body) → ((l : Listing) → (f l).entries ≡ g l.entries) → IsTrue (is_directory_body b) → entries_in (with_listing f b) ≡ g (entries_in b)
entries_listed f g (file bytes) same is = absurd cc
entries_listed f g (directory listing) same is = same listing
entries_listed f g (link path) same is = absurd cc

pub no_entries : (b : Body) → IsFalse (is_directory_body b) → entries_in b ≡ []
no_entries (file bytes) is = refl
no_entries (directory listing) is = absurd cc
no_entries (link path) is = refl

pub no_parent : (b : Body) → IsFalse (is_directory_body b) → parent_in b ≡ None
no_parent (file bytes) is = refl
no_parent (directory listing) is = absurd cc
no_parent (link path) is = refl

-- Maps -----------------------------------------------------------------------------------------------------------------

pub changed_there : (m : Inodes) (k : ℕ) (f : Inode → Inode) (x : Inode) → get m k ≡ Some x → changed m k f ≡ insert m k (f x)
unfolding changed
changed_there m k f x there = ap (λ o. option_map_or (λ inode. insert m k (f inode)) o m) there

pub insert_again : (m : Inodes) (k : ℕ) (x y : Inode) → insert (insert m k x) k y ≡ insert m k y
insert_again m k x y = same_map nat_cmp_total nat_cmp-IsAntisymmetric (insert (insert m k x) k y) (insert m k y)
    (λ q. get-set_at (insert m k x) k (Some y) q ∙ ap (cond (eqb k q) (Some y)) (get-set_at m k (Some x) q) ∙ last (eqb k q) (get m q) ∙ sym (get-set_at m k (Some y) q))
  where
    last : (b : Bool) (o : Option Inode) → cond b (Some y) (cond b (Some x) o) ≡ cond b (Some y) o
    last true o = refl
    last false o = refl

-- Changes of an inode that is there --------------------------------------------------------------------------------------

pub alter_there : {m : Inodes} {owed spare more less owed_then spare_then more_then less_then : ℕ → ℕ} {loose loose_then : ℕ → Bool} → Owing m owed spare more less loose
    → (k : ℕ) (x y : Inode) → get m k ≡ Some x → is_directory_body y.body ≡ is_directory_body x.body → parent_in y.body ≡ parent_in x.body
    → ((c : ℕ) → times c (entries_in y.body) + owed_then c + only k (due_in k x.links x.body) c + spare c ≡ times c (entries_in x.body) + owed c + only k (due_in k y.links y.body) c + spare_then c)
    → ((c : ℕ) → more_then c + only k (links_at (Some x)) c + less c ≡ more c + only k (links_at (Some y)) c + less_then c)
    → ((c : ℕ) → IsFalse (loose_then c) → IsFalse (loose c) × (1 ≤ times c (entries_in x.body) → 1 ≤ times c (entries_in y.body)))
    → Owing (insert m k y) owed_then spare_then more_then less_then loose_then
alter_there {m} {owed} {spare} {more} {less} {owed_then} {spare_then} {more_then} {less_then} {loose} {loose_then} w k x y there kind parent names folders held =
    alter w k (Some y) (kind ∙ ap is_directory (sym there)) (parent ∙ ap parent_at (sym there))
    (λ c. subst (λ o. times c (entries_in y.body) + owed_then c + only k (due k o) c + spare c ≡ times c (entries_at o) + owed c + only k (due_in k y.links y.body) c + spare_then c) (sym there) (names c))
    (λ c. subst (λ o. more_then c + only k (links_at o) c + less c ≡ more c + only k (links_at (Some y)) c + less_then c) (sym there) (folders c))
    (λ c firm. ((held c firm).0, subst (λ o. 1 ≤ times c (entries_at o) → 1 ≤ times c (entries_in y.body)) (sym there) (held c firm).1))

-- what a tree reads of an inode is the same
pub record Alike (x y : Inode) : Type 0 where
  pub links : y.links ≡ x.links
  pub kind : is_directory_body y.body ≡ is_directory_body x.body
  pub parent : parent_in y.body ≡ parent_in x.body
  pub entries : entries_in y.body ≡ entries_in x.body

pub alike_kept : {m : Inodes} {owed spare more less : ℕ → ℕ} {loose : ℕ → Bool} → Owing m owed spare more less loose
    → (k : ℕ) (x y : Inode) → get m k ≡ Some x → Alike x y → Owing (insert m k y) owed spare more less loose
alike_kept {m} {owed} {spare} {more} {less} {loose} w k x y there alike =
    alter_there w k x y there alike.kind alike.parent
    (λ c.
    let same : times c (entries_in y.body) ≡ times c (entries_in x.body) = ap (times c) alike.entries in
    let dues : only k (due_in k y.links y.body) c ≡ only k (due_in k x.links x.body) c = ap (λ n. only k n c) (same_due k y.links x.links y.body x.body alike.links alike.kind) in
    omega arith)
    (λ c.
    let same : only k (links_at (Some y)) c ≡ only k (links_at (Some x)) c = ap (λ n. only k n c) (ap (λ b. cond b y.links 0) alike.kind ∙ ap (λ n. cond (is_directory_body x.body) n 0) alike.links) in
    omega arith)
    (λ c firm. (firm, λ before. subst (λ es. 1 ≤ times c es) (sym alike.entries) before))

-- Entries --------------------------------------------------------------------------------------------------------------

pub entry_added : {m : Inodes} {owed spare more less : ℕ → ℕ} {loose : ℕ → Bool} → Owing m owed spare more less loose
    → (d : ℕ) (x : Inode) (now : Time) (e : Entry) → get m d ≡ Some x → IsTrue (is_directory_body x.body)
    → Owing (insert m d (with_entry now e x)) owed (λ c. spare c + one e.child c) more less loose
entry_added {m} {owed} {spare} {more} {less} {loose} w d x now e there folder =
    let pushed : Listing → Listing = λ l. record l { entries = l.entries ++ e ∷ [] } in
    let entries : entries_in (with_entry now e x).body ≡ entries_in x.body ++ e ∷ [] = entries_listed pushed (λ es. es ++ e ∷ []) x.body (λ l. refl) folder in
    let kind : is_directory_body (with_entry now e x).body ≡ is_directory_body x.body = kind_listed pushed x.body in
    alter_there w d x (with_entry now e x) there kind (parent_listed pushed x.body (λ l. refl))
    (λ c.
    let more_times : times c (entries_in (with_entry now e x).body) ≡ times c (entries_in x.body) + one e.child c = ap (times c) entries ∙ times-push c (entries_in x.body) e in
    let dues : only d (due_in d x.links (with_entry now e x).body) c ≡ only d (due_in d x.links x.body) c = ap (λ n. only d n c) (same_due d x.links x.links (with_entry now e x).body x.body refl kind) in
    omega arith)
    (λ c.
    let same : only d (links_at (Some (with_entry now e x))) c ≡ only d (links_at (Some x)) c = ap (λ b. only d (cond b x.links 0) c) kind in
    omega arith)
    (λ c firm. (firm, λ before. let more_times : times c (entries_in (with_entry now e x).body) ≡ times c (entries_in x.body) + one e.child c = ap (times c) entries ∙ times-push c (entries_in x.body) e in omega arith))

-- what the entry named need not be held any more
pub entry_taken : {m : Inodes} {owed spare more less : ℕ → ℕ} {loose : ℕ → Bool} → Owing m owed spare more less loose
    → (d : ℕ) (x : Inode) (now : Time) (name : List ℕ) (e : Entry) → get m d ≡ Some x → IsTrue (is_directory_body x.body) → entry_named name (entries_in x.body) ≡ Some e
    → Owing (insert m d (without_entry now name x)) (λ c. owed c + one e.child c) spare more less (λ c. eqb e.child c || loose c)
entry_taken {m} {owed} {spare} {more} {less} {loose} w d x now name e there folder found =
    let dropped : Listing → Listing = λ l. record l { entries = without_name name l.entries } in
    let entries : entries_in (without_entry now name x).body ≡ without_name name (entries_in x.body) = entries_listed dropped (without_name name) x.body (λ l. refl) folder in
    let kind : is_directory_body (without_entry now name x).body ≡ is_directory_body x.body = kind_listed dropped x.body in
    let fewer : (c : ℕ) → times c (entries_in (without_entry now name x).body) + one e.child c ≡ times c (entries_in x.body) = λ c. ap (λ es. times c es + one e.child c) entries ∙ times-without c name (entries_in x.body) e found in
    alter_there w d x (without_entry now name x) there kind (parent_listed dropped x.body (λ l. refl))
    (λ c.
    let less_times = fewer c in
    let dues : only d (due_in d x.links (without_entry now name x).body) c ≡ only d (due_in d x.links x.body) c = ap (λ n. only d n c) (same_due d x.links x.links (without_entry now name x).body x.body refl kind) in
    omega arith)
    (λ c.
    let same : only d (links_at (Some (without_entry now name x))) c ≡ only d (links_at (Some x)) c = ap (λ b. only d (cond b x.links 0) c) kind in
    omega arith)
    (λ c firm.
    let parts = or_parts (eqb e.child c) (loose c) firm in (
      parts.1,
      λ before.
          let less_times = fewer c in
          let apart : one e.child c ≡ 0 = ap (λ b. cond b 1 0) parts.0 in
          omega arith,
    ))

-- what is held again
pub firm : {m : Inodes} {owed spare more less : ℕ → ℕ} {loose : ℕ → Bool} (k : ℕ) → Owing m owed spare more less (λ c. eqb k c || loose c)
    → ((p : ℕ) → parent_of m k ≡ Some p → 1 ≤ times k (entries_at (get m p))) → Owing m owed spare more less loose
firm {m} {owed} {spare} {more} {less} {loose} k w held =
    settle w (λ c. refl) (λ c. refl) (λ c p up is_firm was. by_key c p up (eqb k c) refl (subst (λ b. eqb k c || b ≡ true) is_firm was))
  where
    by_key : (c p : ℕ) → parent_of m c ≡ Some p → (b : Bool) → eqb k c ≡ b → (eqb k c || false) ≡ true → 1 ≤ times c (entries_at (get m p))
    by_key c p up true is was = subst (λ q. 1 ≤ times q (entries_at (get m p))) (eqb-true k c is) (held p (subst (λ q. parent_of m q ≡ Some p) (sym (eqb-true k c is)) up))
    by_key c p up false is was = absurd (let false_is : (eqb k c || false) ≡ false = ap (λ t. t || false) is in cc)

plain_parent : (o : Option Inode) → IsFalse (is_directory o) → parent_at o ≡ None
plain_parent None is = refl
plain_parent (Some x) is = no_parent x.body is

-- a file or a symbolic link is held by none
pub firm_file : {m : Inodes} {owed spare more less : ℕ → ℕ} {loose : ℕ → Bool} (k : ℕ) → Owing m owed spare more less (λ c. eqb k c || loose c)
    → IsFalse (is_directory (get m k)) → Owing m owed spare more less loose
firm_file {m} k w plain = firm k w (λ p up. absurd (none_either (eqb k root_id) p (ap (cond (eqb k root_id) None) (sym (plain_parent (get m k) plain)) ∙ up)))

-- Links of files and symbolic links --------------------------------------------------------------------------------------

pub file_due : (k links : ℕ) (b : Body) → IsFalse (is_directory_body b) → due_in k links b ≡ links
file_due k links b plain = due_by_kind k links b ∙ cond-false (is_directory_body b) (cond (eqb k root_id) 0 1) links plain

pub link_gained : {m : Inodes} {owed spare more less : ℕ → ℕ} {loose : ℕ → Bool} → Owing m owed spare more less loose
    → (k : ℕ) (x : Inode) (now : Time) → get m k ≡ Some x → IsFalse (is_directory_body x.body)
    → Owing (insert m k (with_link now x)) (λ c. owed c + one k c) spare more less loose
link_gained {m} {owed} {spare} {more} {less} {loose} w k x now there plain =
    alter_there w k x (with_link now x) there refl refl
    (λ c.
    let was : only k (due_in k x.links x.body) c ≡ only k x.links c = ap (λ n. only k n c) (file_due k x.links x.body plain) in
    let is : only k (due_in k (x.links + 1) x.body) c ≡ only k x.links c + only k 1 c = ap (λ n. only k n c) (file_due k (x.links + 1) x.body plain) ∙ only_more k x.links 1 c in
    omega arith)
    (λ c.
    let was : only k (links_at (Some x)) c ≡ only k 0 c = ap (λ n. only k n c) (cond-false (is_directory_body x.body) x.links 0 plain) in
    let is : only k (links_at (Some (with_link now x))) c ≡ only k 0 c = ap (λ n. only k n c) (cond-false (is_directory_body x.body) (x.links + 1) 0 plain) in
    omega arith)
    (λ c is_firm. (is_firm, λ before. before))

-- no directory has a parent that counts none
pub under_none : (m : Inodes) (k c : ℕ) → under m k ≡ 0 → parent_of m c ≡ Some k → ⊥
under_none m k c none up =
    let law : under (set_at m c None) k + hit (parent_of m c) k ≡ under m k + hit (above c None) k = under-set m c None k in
    let counted : hit (parent_of m c) k ≡ 1 = ap (λ p. hit p k) up ∙ one_here k in
    let nowhere : hit (above c None) k ≡ 0 = hit_none (eqb c root_id) k in
    omega arith

not_root : {m : Inodes} {owed spare more less : ℕ → ℕ} {loose : ℕ → Bool} → Owing m owed spare more less loose → (k : ℕ) (x : Inode) → get m k ≡ Some x → IsFalse (is_directory_body x.body) → k ≡ root_id → ⊥
not_root {m} w k x there plain is = let at : is_directory (get m root_id) ≡ false = ap (λ q. is_directory (get m q)) (sym is) ∙ ap is_directory there ∙ plain in let root = w.root in cc

link_less : {m : Inodes} {owed spare more less : ℕ → ℕ} {loose : ℕ → Bool} → Owing m owed spare more less loose
    → (k : ℕ) (x : Inode) (now : Time) → get m k ≡ Some x → IsFalse (is_directory_body x.body) → 1 ≤ x.links
    → Owing (insert m k (with_link_less now x)) owed (λ c. spare c + one k c) more less loose
link_less {m} {owed} {spare} {more} {less} {loose} w k x now there plain many =
    alter_there w k x (with_link_less now x) there refl refl
    (λ c.
    let was : only k (due_in k x.links x.body) c ≡ only k (x.links - 1) c + only k 1 c = ap (λ n. only k n c) (file_due k x.links x.body plain) ∙ ap (λ n. only k n c) (one_off x.links many) ∙ only_more k (x.links - 1) 1 c in
    let is : only k (due_in k (x.links - 1) x.body) c ≡ only k (x.links - 1) c = ap (λ n. only k n c) (file_due k (x.links - 1) x.body plain) in
    omega arith)
    (λ c.
    let was : only k (links_at (Some x)) c ≡ only k 0 c = ap (λ n. only k n c) (cond-false (is_directory_body x.body) x.links 0 plain) in
    let is : only k (links_at (Some (with_link_less now x))) c ≡ only k 0 c = ap (λ n. only k n c) (cond-false (is_directory_body x.body) (x.links - 1) 0 plain) in
    omega arith)
    (λ c is_firm. (is_firm, λ before. before))

last_link : {m : Inodes} {owed spare more less : ℕ → ℕ} {loose : ℕ → Bool} → Owing m owed spare more less loose
    → (k : ℕ) (x : Inode) → get m k ≡ Some x → IsFalse (is_directory_body x.body) → x.links ≡ 1 → less k ≡ 0
    → Owing (remove m k) owed (λ c. spare c + one k c) more less loose
last_link {m} {owed} {spare} {more} {less} {loose} w k x there plain last even =
    let no_own : own (get m k) ≡ 0 = ap own there ∙ ap (λ b. cond b 2 0) plain in
    let no_links : links_at (get m k) ≡ 0 = ap links_at there ∙ cond-false (is_directory_body x.body) x.links 0 plain in
    let balance : under m k + own (get m k) + more k ≡ links_at (get m k) + less k = w.folders k in
    let none : under m k ≡ 0 = omega arith in
    vanish w k (not_root w k x there plain) (ap entries_at there ∙ no_entries x.body plain) (λ c. under_none m k c none)
    (λ c. let was : only k (due k (get m k)) c ≡ one k c = ap (λ n. only k n c) (ap (due k) there ∙ file_due k x.links x.body plain ∙ last) in omega arith)
    (λ c.
    let was : only k (links_at (get m k)) c ≡ only k 0 c = ap (λ n. only k n c) no_links in
    let is : only k (own (get m k)) c ≡ only k 0 c = ap (λ n. only k n c) no_own in
    let no_hit : hit (parent_at (get m k)) c ≡ 0 = ap (λ p. hit p c) (ap parent_at there ∙ no_parent x.body plain) in
    omega arith)
    (λ c apart is_firm. is_firm)

link_lost_there : (m : Inodes) (now : Time) (k : ℕ) (x : Inode) → get m k ≡ Some x → link_lost m now k ≡ link_lost_of m now k x
unfolding link_lost
link_lost_there m now k x there = ap (λ o. option_map_or (link_lost_of m now k) o m) there

-- an entry is there beyond the links
pub link_gone : {m : Inodes} {owed spare more less : ℕ → ℕ} {loose : ℕ → Bool} → Owing m owed spare more less loose
    → (k : ℕ) (x : Inode) (now : Time) → get m k ≡ Some x → IsFalse (is_directory_body x.body) → 1 ≤ x.links → less k ≡ 0
    → Owing (link_lost m now k) owed (λ c. spare c + one k c) more less loose
link_gone {m} {owed} {spare} {more} {less} {loose} w k x now there plain many even =
    subst (λ n. Owing n owed (λ c. spare c + one k c) more less loose) (sym (link_lost_there m now k x there)) (by_count (leb x.links 1) refl)
  where
    by_count : (b : Bool) → leb x.links 1 ≡ b → Owing (cond b (remove m k) (insert m k (with_link_less now x))) owed (λ c. spare c + one k c) more less loose
    by_count true few = let least : x.links ≤ 1 = leb-true x.links 1 few in last_link w k x there plain (omega arith) even
    by_count false few = link_less w k x now there plain many

-- Links of directories -------------------------------------------------------------------------------------------------

folder_due : (k links new : ℕ) (b : Body) → IsTrue (is_directory_body b) → due_in k new b ≡ due_in k links b
folder_due k links new b folder = due_by_kind k new b ∙ cond-true (is_directory_body b) (cond (eqb k root_id) 0 1) new folder ∙ sym (cond-true (is_directory_body b) (cond (eqb k root_id) 0 1) links folder) ∙ sym (due_by_kind k links b)

pub folder_linked : {m : Inodes} {owed spare more less : ℕ → ℕ} {loose : ℕ → Bool} → Owing m owed spare more less loose
    → (k : ℕ) (x : Inode) (now : Time) → get m k ≡ Some x → IsTrue (is_directory_body x.body)
    → Owing (insert m k (with_link now x)) owed spare (λ c. more c + one k c) less loose
folder_linked {m} {owed} {spare} {more} {less} {loose} w k x now there folder =
    alter_there w k x (with_link now x) there refl refl
    (λ c. let same : only k (due_in k (x.links + 1) x.body) c ≡ only k (due_in k x.links x.body) c = ap (λ n. only k n c) (folder_due k x.links (x.links + 1) x.body folder) in omega arith)
    (λ c.
    let was : only k (links_at (Some x)) c ≡ only k x.links c = ap (λ n. only k n c) (cond-true (is_directory_body x.body) x.links 0 folder) in
    let is : only k (links_at (Some (with_link now x))) c ≡ only k x.links c + only k 1 c = ap (λ n. only k n c) (cond-true (is_directory_body x.body) (x.links + 1) 0 folder) ∙ only_more k x.links 1 c in
    omega arith)
    (λ c is_firm. (is_firm, λ before. before))

pub folder_unlinked : {m : Inodes} {owed spare more less : ℕ → ℕ} {loose : ℕ → Bool} → Owing m owed spare more less loose
    → (k : ℕ) (x : Inode) (now : Time) → get m k ≡ Some x → IsTrue (is_directory_body x.body) → 1 ≤ x.links
    → Owing (insert m k (with_link_less now x)) owed spare more (λ c. less c + one k c) loose
folder_unlinked {m} {owed} {spare} {more} {less} {loose} w k x now there folder many =
    alter_there w k x (with_link_less now x) there refl refl
    (λ c. let same : only k (due_in k (x.links - 1) x.body) c ≡ only k (due_in k x.links x.body) c = ap (λ n. only k n c) (folder_due k x.links (x.links - 1) x.body folder) in omega arith)
    (λ c.
    let was : only k (links_at (Some x)) c ≡ only k (x.links - 1) c + only k 1 c = ap (λ n. only k n c) (cond-true (is_directory_body x.body) x.links 0 folder) ∙ ap (λ n. only k n c) (one_off x.links many) ∙ only_more k (x.links - 1) 1 c in
    let is : only k (links_at (Some (with_link_less now x))) c ≡ only k (x.links - 1) c = ap (λ n. only k n c) (cond-true (is_directory_body x.body) (x.links - 1) 0 folder) in
    omega arith)
    (λ c is_firm. (is_firm, λ before. before))
