-- The changes at one fileid that keep a tree but for what is owed, each with what it asks: five, whatever the procedure.
use Rattle.std.proofs.Common.{◌≡◌, ℕ, ◌+◌, ◌≤◌, Bool, true, false, cond, eqb, IsTrue, IsFalse, [], Option, Some, None, inl, inr, refl, sym, ap, subst, ◌∙◌, arith}
use Rattle.std.specs.FinMap.{get, insert, remove}
use Rattle.std.proofs.lemmas.Bool.{cases_eq, cases_Bool, eqb-true, ne_eqb, cond-false}
use Rattle.bfs_model.specs.Server.Tree.{Body, file, directory, link, Inode, Inodes, root_id, is_directory_body, is_directory, parent_in, entries_in, entries_at, parent_at, parent_of}
use Rattle.bfs_model.specs.Server.WellFormed.{times, named, ReachesRoot, step}
use Rattle.bfs_model.specs.Server.Conflicts.{set_at}
use Rattle.bfs_model.proofs.WellFormed.Sums.{only, above, hit, hit_none, under, due_in, due, links_at, own, Owing, get-set_at, get-set_here, get-set_other, named-set, under-set, at-set, reaches_along}

-- The equations --------------------------------------------------------------------------------------------------------

-- F reads the same of what comes to a fileid as of what was there
pub read_kept : {A : Type 0} (F : Option Inode → A) (m : Inodes) (k : ℕ) (o : Option Inode) → F o ≡ F (get m k) → (c : ℕ) → F (get (set_at m k o) c) ≡ F (get m c)
read_kept F m k o same c = ap F (get-set_at m k o c) ∙ by_key (eqb k c) refl
  where
    by_key : (b : Bool) → eqb k c ≡ b → F (cond b o (get m c)) ≡ F (get m c)
    by_key true is = subst (λ q. F o ≡ F (get m q)) (eqb-true k c is) same
    by_key false is = refl

pub only_same : (k v w c : ℕ) → v ≡ w → only k v c ≡ only k w c
only_same k v w c is = ap (λ n. only k n c) is

names_sum : (named was is after due old new due_after owed spare owed_then spare_then : ℕ) → after + was ≡ named + is → due_after + old ≡ due + new → named + owed ≡ due + spare
    → is + owed_then + old + spare ≡ was + owed + new + spare_then → after + owed_then ≡ due_after + spare_then
names_sum named was is after due old new due_after owed spare owed_then spare_then a b c d = omega arith

folders_sum : (under was is after own own_was own_is own_after links links_was links_is links_after more less more_then less_then : ℕ)
    → after + was ≡ under + is → own_after + own_was ≡ own + own_is → links_after + links_was ≡ links + links_is → under + own + more ≡ links + less
    → is + own_is + more_then + links_was + less ≡ was + own_was + more + links_is + less_then → after + own_after + more_then ≡ links_after + less_then
folders_sum under was is after own own_was own_is own_after links links_was links_is links_after more less more_then less_then a b c d e = omega arith

-- how the slack of names has to change for what comes to a fileid
abbrev pub NamesBalance : (m : Inodes) (k : ℕ) (o : Option Inode) (owed spare owed_then spare_then : ℕ → ℕ) → Type 0
NamesBalance m k o owed spare owed_then spare_then = (c : ℕ) → times c (entries_at o) + owed_then c + only k (due k (get m k)) c + spare c ≡ times c (entries_at (get m k)) + owed c + only k (due k o) c + spare_then c

abbrev pub FoldersBalance : (m : Inodes) (k : ℕ) (o : Option Inode) (more less more_then less_then : ℕ → ℕ) → Type 0
FoldersBalance m k o more less more_then less_then = (c : ℕ) → hit (above k o) c + only k (own o) c + more_then c + only k (links_at (get m k)) c + less c ≡ hit (parent_of m k) c + only k (own (get m k)) c + more c + only k (links_at o) c + less_then c

names_then : {m : Inodes} {owed spare more less : ℕ → ℕ} {loose : ℕ → Bool} → Owing m owed spare more less loose → (k : ℕ) (o : Option Inode) (owed_then spare_then : ℕ → ℕ)
    → NamesBalance m k o owed spare owed_then spare_then → (c : ℕ) → named (set_at m k o) c + owed_then c ≡ due c (get (set_at m k o) c) + spare_then c
names_then {m} {owed} {spare} w k o owed_then spare_then balance c =
    names_sum (named m c) (times c (entries_at (get m k))) (times c (entries_at o)) (named (set_at m k o) c)
    (due c (get m c)) (only k (due k (get m k)) c) (only k (due k o) c) (due c (get (set_at m k o) c)) (owed c) (spare c) (owed_then c) (spare_then c)
    (named-set m k o c) (at-set due m k o c) (w.names c) (balance c)

folders_then : {m : Inodes} {owed spare more less : ℕ → ℕ} {loose : ℕ → Bool} → Owing m owed spare more less loose → (k : ℕ) (o : Option Inode) (more_then less_then : ℕ → ℕ)
    → FoldersBalance m k o more less more_then less_then → (c : ℕ) → under (set_at m k o) c + own (get (set_at m k o) c) + more_then c ≡ links_at (get (set_at m k o) c) + less_then c
folders_then {m} {more = more} {less = less} w k o more_then less_then balance c =
    folders_sum (under m c) (hit (parent_of m k) c) (hit (above k o) c) (under (set_at m k o) c)
    (own (get m c)) (only k (own (get m k)) c) (only k (own o) c) (own (get (set_at m k o) c))
    (links_at (get m c)) (only k (links_at (get m k)) c) (only k (links_at o) c) (links_at (get (set_at m k o) c))
    (more c) (less c) (more_then c) (less_then c)
    (under-set m k o c) (at-set (λ q g. own g) m k o c) (at-set (λ q g. links_at g) m k o c) (w.folders c) (balance c)

-- Parents --------------------------------------------------------------------------------------------------------------

pub parents_kept : (m : Inodes) (k : ℕ) (o : Option Inode) → parent_at o ≡ parent_at (get m k) → (c : ℕ) → parent_of (set_at m k o) c ≡ parent_of m c
parents_kept m k o same c = ap (cond (eqb c root_id) None) (read_kept parent_at m k o same c)

pub parent_here : (m : Inodes) (k : ℕ) (o : Option Inode) → parent_of (set_at m k o) k ≡ above k o
parent_here m k o = ap (above k) (get-set_here m k o)

pub parent_other : (m : Inodes) (k : ℕ) (o : Option Inode) (c : ℕ) → (k ≡ c → ⊥) → parent_of (set_at m k o) c ≡ parent_of m c
parent_other m k o c other = ap (above c) (get-set_other m k o c other)

-- the same ways up where parents are the same
pub reaches_same : (m n : Inodes) → ((c : ℕ) → parent_of n c ≡ parent_of m c) → (d : ℕ) → ReachesRoot (parent_of m) d → ReachesRoot (parent_of n) d
reaches_same m n same d r = reaches_along (parent_of m) (parent_of n) (λ q. Unit {0}) (λ q p good up. inl (same q ∙ up, tt)) d r tt

pub same_zero : (b : Bool) → ◌≡◌ {A = ℕ} (cond b 0 0) 0
same_zero true = refl
same_zero false = refl

pub only_none : (k c : ℕ) → only k 0 c ≡ 0
only_none k c = same_zero (eqb k c)

gone : (m : Inodes) (k : ℕ) → IsTrue (is_directory (get (set_at m k None) k)) → ⊥
gone m k is = let none : is_directory (get (set_at m k None) k) ≡ false = ap is_directory (get-set_here m k None) in cc

due_of_directory_in : (k links : ℕ) (b : Body) → IsTrue (is_directory_body b) → due_in k links b ≡ cond (eqb k root_id) 0 1
due_of_directory_in k links (file bytes) is = absurd cc
due_of_directory_in k links (directory listing) is = refl
due_of_directory_in k links (link path) is = absurd cc

pub due_of_directory : (k : ℕ) (o : Option Inode) → is_directory o ≡ true → due k o ≡ cond (eqb k root_id) 0 1
due_of_directory k None is = absurd cc
due_of_directory k (Some x) is = due_of_directory_in k x.links x.body is

-- The changes ----------------------------------------------------------------------------------------------------------

-- the slack is told otherwise
pub settle : {m : Inodes} {owed spare more less owed_then spare_then more_then less_then : ℕ → ℕ} {loose loose_then : ℕ → Bool} → Owing m owed spare more less loose
    → ((c : ℕ) → owed_then c + spare c ≡ owed c + spare_then c)
    → ((c : ℕ) → more_then c + less c ≡ more c + less_then c)
    → ((c p : ℕ) → parent_of m c ≡ Some p → IsFalse (loose_then c) → IsTrue (loose c) → 1 ≤ times c (entries_at (get m p)))
    → Owing m owed_then spare_then more_then less_then loose_then
settle {m} {owed} {spare} {more} {less} {owed_then} {spare_then} {more_then} {less_then} {loose} {loose_then} w names folders held = record {
  names = λ c. let was = w.names c in let by = names c in omega arith;
  folders = λ c. let was = w.folders c in let by = folders c in omega arith;
  held = λ c p up firm. elim (cases_Bool (loose c)) [ inl was ↦ held c p up firm was | inr was ↦ w.held c p up was ];
  reaches = w.reaches;
  root = w.root;
}

-- an inode stays of its kind, with its parent
pub alter : {m : Inodes} {owed spare more less owed_then spare_then more_then less_then : ℕ → ℕ} {loose loose_then : ℕ → Bool} → Owing m owed spare more less loose
    → (k : ℕ) (o : Option Inode) → is_directory o ≡ is_directory (get m k) → parent_at o ≡ parent_at (get m k)
    → NamesBalance m k o owed spare owed_then spare_then
    → ((c : ℕ) → more_then c + only k (links_at (get m k)) c + less c ≡ more c + only k (links_at o) c + less_then c)
    → ((c : ℕ) → IsFalse (loose_then c) → IsFalse (loose c) × (1 ≤ times c (entries_at (get m k)) → 1 ≤ times c (entries_at o)))
    → Owing (set_at m k o) owed_then spare_then more_then less_then loose_then
alter {m} {owed} {spare} {more} {less} {owed_then} {spare_then} {more_then} {less_then} {loose} {loose_then} w k o kind parent names folders held = record {
  names = names_then w k o owed_then spare_then names;
  folders = folders_then w k o more_then less_then (λ c.
      let balance = folders c in
      let same_hit : hit (above k o) c ≡ hit (parent_of m k) c = ap (λ p. hit (cond (eqb k root_id) None p) c) parent in
      let same_own : only k (own o) c ≡ only k (own (get m k)) c = ap (λ b. only k (cond b 2 0) c) kind in
      omega arith);
  held = λ c p up firm.
      let before = w.held c p (sym (parents_kept m k o parent c) ∙ up) (held c firm).0 in
      elim (cases_eq k p) [
        | inl is ↦ subst (λ q. 1 ≤ times c (entries_at (get (set_at m k o) q))) is (subst (λ g. 1 ≤ times c (entries_at g)) (sym (get-set_here m k o)) ((held c firm).1 (subst (λ q. 1 ≤ times c (entries_at (get m q))) (sym is) before)))
        | inr other ↦ subst (λ g. 1 ≤ times c (entries_at g)) (sym (get-set_other m k o p other)) before
      ];
  reaches = λ d is. reaches_same m (set_at m k o) (parents_kept m k o parent) d (w.reaches d (sym (read_kept is_directory m k o kind d) ∙ is));
  root = read_kept is_directory m k o kind root_id ∙ w.root;
}

pub parent_is_there : (b : Body) → IsTrue (is_directory_body b) → (p : ℕ) × (parent_in b ≡ Some p)
parent_is_there (file bytes) is = absurd cc
parent_is_there (directory listing) is = (listing.parent, refl)
parent_is_there (link path) is = absurd cc

pub none_either : (b : Bool) (p : ℕ) → ◌≡◌ {A = Option ℕ} (cond b None None) (Some p) → ⊥
none_either true p is = cc
none_either false p is = cc

-- what is nowhere is above nothing
none_above : (m : Inodes) (k p : ℕ) → get m k ≡ None → parent_of m k ≡ Some p → ⊥
none_above m k p absent up = none_either (eqb k root_id) p (ap (above k) (sym absent) ∙ up)

none_held : (m : Inodes) (k c : ℕ) → entries_at (get m k) ≡ [] → 1 ≤ times c (entries_at (get m k)) → ⊥
none_held m k c bare held = let none : times c (entries_at (get m k)) ≡ 0 = ap (times c) bare in omega arith

held_still : (m : Inodes) (k : ℕ) (o : Option Inode) (c p : ℕ) → entries_at (get m k) ≡ [] → 1 ≤ times c (entries_at (get m p)) → 1 ≤ times c (entries_at (get (set_at m k o) p))
held_still m k o c p bare held =
    elim (cases_eq k p) [
      | inl is ↦ absurd (none_held m k c bare (subst (λ q. 1 ≤ times c (entries_at (get m q))) (sym is) held))
      | inr other ↦ subst (λ g. 1 ≤ times c (entries_at g)) (sym (get-set_other m k o p other)) held
    ]

reaches_appearing : (m : Inodes) (k : ℕ) (o : Option Inode) → get m k ≡ None → (d : ℕ) → ReachesRoot (parent_of m) d → ReachesRoot (parent_of (set_at m k o)) d
reaches_appearing m k o absent d r =
    reaches_along (parent_of m) (parent_of (set_at m k o)) (λ q. Unit {0}) (λ q p good up. elim (cases_eq k q) [
      | inl is ↦ absurd (none_above m k p absent (ap (parent_of m) is ∙ up))
      | inr other ↦ inl (parent_other m k o q other ∙ up, tt)
    ]) d r tt

-- an inode with no entries comes to be
pub appear : {m : Inodes} {owed spare more less owed_then spare_then more_then less_then : ℕ → ℕ} {loose loose_then : ℕ → Bool} → Owing m owed spare more less loose
    → (k : ℕ) (x : Inode) → get m k ≡ None → entries_in x.body ≡ []
    → ((p : ℕ) → parent_in x.body ≡ Some p → IsTrue (is_directory (get m p)) × (IsFalse (loose_then k) → 1 ≤ times k (entries_at (get m p))))
    → ((c : ℕ) → owed_then c + spare c ≡ owed c + only k (due k (Some x)) c + spare_then c)
    → ((c : ℕ) → hit (parent_in x.body) c + only k (own (Some x)) c + more_then c + less c ≡ more c + only k (links_at (Some x)) c + less_then c)
    → ((c : ℕ) → IsFalse (loose_then c) → IsFalse (loose c))
    → Owing (insert m k x) owed_then spare_then more_then less_then loose_then
appear {m} {owed} {spare} {more} {less} {owed_then} {spare_then} {more_then} {less_then} {loose} {loose_then} w k x absent bare parent names folders firmer =
    let not_root : k ≡ root_id → ⊥ = λ is. let none : is_directory (get m root_id) ≡ false = ap is_directory (subst (λ q. get m q ≡ None) is absent) in let there = w.root in cc in
    let above_is : above k (Some x) ≡ parent_in x.body = cond-false (eqb k root_id) None (parent_in x.body) (ne_eqb k root_id not_root) in
    let none : entries_at (get m k) ≡ [] = ap entries_at absent in
    record {
      names = names_then w k (Some x) owed_then spare_then (λ c.
          let balance = names c in
          let gained : times c (entries_in x.body) ≡ 0 = ap (times c) bare in
          let lost : times c (entries_at (get m k)) ≡ 0 = ap (times c) none in
          let no_due : only k (due k (get m k)) c ≡ only k 0 c = only_same k (due k (get m k)) 0 c (ap (due k) absent) in
          let zero : only k 0 c ≡ 0 = only_none k c in
          omega arith);
      folders = folders_then w k (Some x) more_then less_then (λ c.
          let balance = folders c in
          let gained : hit (above k (Some x)) c ≡ hit (parent_in x.body) c = ap (λ p. hit p c) above_is in
          let lost : hit (parent_of m k) c ≡ 0 = ap (λ g. hit (above k g) c) absent ∙ hit_none (eqb k root_id) c in
          let no_own : only k (own (get m k)) c ≡ only k 0 c = only_same k (own (get m k)) 0 c (ap own absent) in
          let no_links : only k (links_at (get m k)) c ≡ only k 0 c = only_same k (links_at (get m k)) 0 c (ap links_at absent) in
          let zero : only k 0 c ≡ 0 = only_none k c in
          omega arith);
      held = λ c p up firm. elim (cases_eq k c) [
        | inl is ↦
            let here : parent_in x.body ≡ Some p = sym above_is ∙ sym (parent_here m k (Some x)) ∙ subst (λ q. parent_of (set_at m k (Some x)) q ≡ Some p) (sym is) up in
            let firm_here : IsFalse (loose_then k) = subst (λ q. IsFalse (loose_then q)) (sym is) firm in
            held_still m k (Some x) c p none (subst (λ q. 1 ≤ times q (entries_at (get m p))) is ((parent p here).1 firm_here))
        | inr other ↦ held_still m k (Some x) c p none (w.held c p (sym (parent_other m k (Some x) c other) ∙ up) (firmer c firm))
      ];
      reaches = λ d is. elim (cases_eq k d) [
        | inl here ↦
            let folder : IsTrue (is_directory_body x.body) = subst (λ g. IsTrue (is_directory g)) (get-set_here m k (Some x)) (subst (λ q. IsTrue (is_directory (get (set_at m k (Some x)) q))) (sym here) is) in
            let its = parent_is_there x.body folder in
            let way = reaches_appearing m k (Some x) absent its.0 (w.reaches its.0 (parent its.0 its.1).0) in
            subst (ReachesRoot (parent_of (set_at m k (Some x)))) here (step its.0 (parent_here m k (Some x) ∙ above_is ∙ its.1) way)
        | inr other ↦ reaches_appearing m k (Some x) absent d (w.reaches d (subst (λ g. IsTrue (is_directory g)) (get-set_other m k (Some x) d other) is))
      ];
      root = subst (λ g. IsTrue (is_directory g)) (sym (get-set_other m k (Some x) root_id not_root)) w.root;
    }

-- an inode with no entries goes, which is the parent of none
pub vanish : {m : Inodes} {owed spare more less owed_then spare_then more_then less_then : ℕ → ℕ} {loose loose_then : ℕ → Bool} → Owing m owed spare more less loose
    → (k : ℕ) → (k ≡ root_id → ⊥) → entries_at (get m k) ≡ [] → ((c : ℕ) → parent_of m c ≡ Some k → ⊥)
    → ((c : ℕ) → owed_then c + only k (due k (get m k)) c + spare c ≡ owed c + spare_then c)
    → ((c : ℕ) → more_then c + only k (links_at (get m k)) c + less c ≡ hit (parent_at (get m k)) c + only k (own (get m k)) c + more c + less_then c)
    → ((c : ℕ) → (k ≡ c → ⊥) → IsFalse (loose_then c) → IsFalse (loose c))
    → Owing (remove m k) owed_then spare_then more_then less_then loose_then
vanish {m} {owed} {spare} {more} {less} {owed_then} {spare_then} {more_then} {less_then} {loose} {loose_then} w k not_root bare childless names folders firmer =
    let above_is : parent_of m k ≡ parent_at (get m k) = cond-false (eqb k root_id) None (parent_at (get m k)) (ne_eqb k root_id not_root) in
    record {
      names = names_then w k None owed_then spare_then (λ c.
          let balance = names c in
          let lost : times c (entries_at (get m k)) ≡ 0 = ap (times c) bare in
          let zero : only k 0 c ≡ 0 = only_none k c in
          omega arith);
      folders = folders_then w k None more_then less_then (λ c.
          let balance = folders c in
          let lost : hit (parent_of m k) c ≡ hit (parent_at (get m k)) c = ap (λ p. hit p c) above_is in
          let gained : hit (above k None) c ≡ 0 = hit_none (eqb k root_id) c in
          let zero : only k 0 c ≡ 0 = only_none k c in
          omega arith);
      held = λ c p up firm. elim (cases_eq k c) [
        | inl is ↦ absurd (none_either (eqb k root_id) p (sym (parent_here m k None) ∙ subst (λ q. parent_of (set_at m k None) q ≡ Some p) (sym is) up))
        | inr other ↦ held_still m k None c p bare (w.held c p (sym (parent_other m k None c other) ∙ up) (firmer c other firm))
      ];
      reaches = λ d is. elim (cases_eq k d) [
        | inl here ↦ absurd (gone m k (subst (λ q. IsTrue (is_directory (get (set_at m k None) q))) (sym here) is))
        | inr other ↦ reaches_along (parent_of m) (parent_of (set_at m k None)) (λ q. k ≡ q → ⊥)
            (λ q p apart up. inl (parent_other m k None q apart ∙ up, λ same. childless q (up ∙ ap Some (sym same))))
            d (w.reaches d (subst (λ g. IsTrue (is_directory g)) (get-set_other m k None d other) is)) other
      ];
      root = subst (λ g. IsTrue (is_directory g)) (sym (get-set_other m k None root_id not_root)) w.root;
    }

-- a directory that need not be held comes below another one
pub reparent : {m : Inodes} {owed spare more less more_then less_then : ℕ → ℕ} {loose : ℕ → Bool} → Owing m owed spare more less loose
    → (k : ℕ) (o : Option Inode) (t : ℕ) → (k ≡ root_id → ⊥) → IsTrue (is_directory (get m k)) → is_directory o ≡ true → entries_at o ≡ entries_at (get m k) → links_at o ≡ links_at (get m k)
    → parent_at o ≡ Some t → IsTrue (loose k) → ReachesRoot (parent_of (set_at m k o)) t
    → ((c : ℕ) → only t 1 c + more_then c + less c ≡ hit (parent_of m k) c + more c + less_then c)
    → Owing (set_at m k o) owed spare more_then less_then loose
reparent {m} {owed} {spare} {more} {less} {more_then} {less_then} {loose} w k o t not_root folder kind entries links parent free way folders =
    let above_is : above k o ≡ Some t = cond-false (eqb k root_id) None (parent_at o) (ne_eqb k root_id not_root) ∙ parent in
    let same_kind : is_directory o ≡ is_directory (get m k) = kind ∙ sym folder in
    record {
      names = names_then w k o owed spare (λ c.
          let same : times c (entries_at o) ≡ times c (entries_at (get m k)) = ap (times c) entries in
          let same_due : only k (due k o) c ≡ only k (due k (get m k)) c = ap (λ n. only k n c) (due_of_directory k o kind ∙ sym (due_of_directory k (get m k) folder)) in
          omega arith);
      folders = folders_then w k o more_then less_then (λ c.
          let balance = folders c in
          let gained : hit (above k o) c ≡ only t 1 c = ap (λ p. hit p c) above_is in
          let same_own : only k (own o) c ≡ only k (own (get m k)) c = ap (λ b. only k (cond b 2 0) c) same_kind in
          let same_links : only k (links_at o) c ≡ only k (links_at (get m k)) c = only_same k (links_at o) (links_at (get m k)) c links in
          omega arith);
      held = λ c p up firm. elim (cases_eq k c) [
        | inl is ↦ absurd (let free_here : loose c ≡ true = subst (λ q. IsTrue (loose q)) is free in cc)
        | inr other ↦ subst (λ es. 1 ≤ times c es) (sym (read_kept entries_at m k o entries p)) (w.held c p (sym (parent_other m k o c other) ∙ up) firm)
      ];
      reaches = λ d is. reaches_along (parent_of m) (parent_of (set_at m k o)) (λ q. Unit {0})
          (λ q p good up. elim (cases_eq k q) [
            | inl here ↦ inr (subst (ReachesRoot (parent_of (set_at m k o))) here (step t (parent_here m k o ∙ above_is) way))
            | inr other ↦ inl (parent_other m k o q other ∙ up, tt)
          ])
          d (w.reaches d (sym (read_kept is_directory m k o same_kind d) ∙ is)) tt;
      root = read_kept is_directory m k o same_kind root_id ∙ w.root;
    }
