-- The words of `IsTree` say what the two equations of `WellFormed` say.
use Rattle.std.proofs.Common.{◌≡◌, ℕ, ◌+◌, ◌-◌, ◌<◌, ◌≤◌, eqb, Bool, true, false, cond, true≢false, IsTrue, IsFalse, List, [], ◌∷◌, Option, Some, None, is_some, sum_by, ◌⊎◌, inl, inr, refl, sym, ap, subst, ◌∙◌, arith, eqb-true, eq-eqb, ne_eqb}
use Rattle.std.specs.Ordering.{nat_cmp}
use Rattle.std.specs.FinMap.{FinMap, empty, get, remove, entries, get-empty}
use Rattle.std.proofs.lemmas.List.Sums.{sum_by-cons}
use Rattle.std.proofs.lemmas.Bool.{cases_lt, cases_eq}
use Rattle.std.proofs.lemmas.Option.{same_Some}
use Rattle.bfs_model.specs.Server.Tree.{Entry, Body, file, directory, link, Inode, Inodes, root_id, new_root, new_tree, is_directory_body, is_directory, entries_in, entries_at, parent_in, parent_at, parent_of}
use Rattle.bfs_model.specs.Server.WellFormed.{times, named, directories_among, at_root, IsTree}
use Rattle.bfs_model.proofs.WellFormed.Changes.{same_zero}
use Rattle.bfs_model.proofs.WellFormed.Sums.{weigh, weight_at, get-set_at, get-set_here, get-set_other, weigh-set_at, weigh_zero, one, above, hit, under, due, links_at, own, WellFormed, named-set}

-- Sums over a map ------------------------------------------------------------------------------------------------------

sum_by-add : {E : Type 0} (f g : E → ℕ) (es : List E) → sum_by (λ e. f e + g e) es ≡ sum_by f es + sum_by g es
sum_by-add f g [] = refl
sum_by-add f g (e ∷ es) =
    let both : sum_by (λ d. f d + g d) (e ∷ es) ≡ (f e + g e) + sum_by (λ d. f d + g d) es = sum_by-cons (λ d. f d + g d) e es in
    let rest : sum_by (λ d. f d + g d) es ≡ sum_by f es + sum_by g es = sum_by-add f g es in
    let left : sum_by f (e ∷ es) ≡ f e + sum_by f es = sum_by-cons f e es in
    let right : sum_by g (e ∷ es) ≡ g e + sum_by g es = sum_by-cons g e es in
    omega arith

pub weigh-add : {X : Type 0} (f g : ℕ → X → ℕ) (m : FinMap nat_cmp X) → weigh (λ k x. f k x + g k x) m ≡ weigh f m + weigh g m
weigh-add f g m = sum_by-add (λ e. f e.0 e.1) (λ e. g e.0 e.1) (entries m)

either_way : (a b : ℕ) → a + (b - a) ≡ b + (a - b)
either_way a b = omega arith

-- what weighs the same at each key that is there
pub weigh_same : {X : Type 0} (f g : ℕ → X → ℕ) (m : FinMap nat_cmp X) → ((q : ℕ) (x : X) → get m q ≡ Some x → f q x ≡ g q x) → weigh f m ≡ weigh g m
weigh_same f g m same =
    let left : weigh (λ k x. f k x + (g k x - f k x)) m ≡ weigh f m + weigh (λ k x. g k x - f k x) m = weigh-add f (λ k x. g k x - f k x) m in
    let right : weigh (λ k x. g k x + (f k x - g k x)) m ≡ weigh g m + weigh (λ k x. f k x - g k x) m = weigh-add g (λ k x. f k x - g k x) m in
    let more : weigh (λ k x. g k x - f k x) m ≡ 0 = weigh_zero (λ k x. g k x - f k x) m (λ q x is. let e : f q x ≡ g q x = same q x is in omega arith) in
    let less : weigh (λ k x. f k x - g k x) m ≡ 0 = weigh_zero (λ k x. f k x - g k x) m (λ q x is. let e : f q x ≡ g q x = same q x is in omega arith) in
    let meet : weigh (λ k x. f k x + (g k x - f k x)) m ≡ weigh (λ k x. g k x + (f k x - g k x)) m = λ i. weigh (λ k x. either_way (f k x) (g k x) i) m in
    omega arith

-- what weighs at one key alone
pub weigh_point : {X : Type 0} (f : ℕ → X → ℕ) (m : FinMap nat_cmp X) (k : ℕ) → ((q : ℕ) (x : X) → eqb k q ≡ false → f q x ≡ 0) → weigh f m ≡ weight_at f k (get m k)
weigh_point {X = X} f m k elsewhere =
    let law : weigh f (remove m k) + weight_at f k (get m k) ≡ weigh f m + 0 = weigh-set_at f m k None in
    let rest : weigh f (remove m k) ≡ 0 = weigh_zero f (remove m k) (λ q x is. at_other (eqb k q) q x refl (sym (get-set_at m k None q) ∙ is)) in
    omega arith
  where
    at_other : (b : Bool) (q : ℕ) (x : X) → eqb k q ≡ b → cond b None (get m q) ≡ Some x → f q x ≡ 0
    at_other true q x same is = absurd cc
    at_other false q x other is = elsewhere q x other

-- The directories of a directory are those whose parent it is ----------------------------------------------------------

-- how often a directory is named
abbrev folder_times : List Entry → ℕ → Inode → ℕ
folder_times es q x = cond (is_directory_body x.body) (times q es) 0

abbrev folder_at : ℕ → ℕ → Inode → ℕ
folder_at k q x = cond (is_directory_body x.body) (one k q) 0

cond-add : (b : Bool) (n k : ℕ) → cond b (n + k) 0 ≡ cond b n 0 + cond b k 0
cond-add true n k = refl
cond-add false n k = refl

folder_there : (k : ℕ) (o : Option Inode) → weight_at (folder_at k) k o ≡ cond (is_directory o) 1 0
folder_there k None = refl
folder_there k (Some x) = ap (λ b. cond (is_directory_body x.body) (cond b 1 0) 0) (eq-eqb k k refl)

-- summed by inodes and by entries
swapped : (m : Inodes) (es : List Entry) → weigh (folder_times es) m ≡ directories_among m es
swapped m [] = weigh_zero (folder_times []) m (λ q x is. same_zero (is_directory_body x.body))
swapped m (e ∷ es) =
    let split : weigh (folder_times (e ∷ es)) m ≡ weigh (λ q x. folder_at e.child q x + folder_times es q x) m = λ i. weigh (λ q x. cond-add (is_directory_body x.body) (one e.child q) (times q es) i) m in
    let sums : weigh (λ q x. folder_at e.child q x + folder_times es q x) m ≡ weigh (folder_at e.child) m + weigh (folder_times es) m = weigh-add (folder_at e.child) (folder_times es) m in
    let head : weigh (folder_at e.child) m ≡ weight_at (folder_at e.child) e.child (get m e.child) =
    weigh_point (folder_at e.child) m e.child (λ q x other. ap (λ b. cond (is_directory_body x.body) (cond b 1 0) 0) other ∙ same_zero (is_directory_body x.body)) in
    let here : weight_at (folder_at e.child) e.child (get m e.child) ≡ cond (is_directory (get m e.child)) 1 0 = folder_there e.child (get m e.child) in
    let rest : weigh (folder_times es) m ≡ directories_among m es = swapped m es in
    omega arith

-- what a tree tells of the directories that have a parent: it holds them, just once, and nothing else does
record IsHeld (m : Inodes) : Type 0 where
  held : (q p : ℕ) → parent_of m q ≡ Some p → 1 ≤ times q (entries_at (get m p))
  once : (q p : ℕ) → parent_of m q ≡ Some p → named m q ≡ 1
  root : named m root_id ≡ 0

named_part : (m : Inodes) (c d : ℕ) → times c (entries_at (get m d)) ≤ named m c
named_part m c d = let law : named (remove m d) c + times c (entries_at (get m d)) ≡ named m c + 0 = named-set m d None c in omega arith

named_twice : (m : Inodes) (c d e : ℕ) → (d ≡ e → ⊥) → times c (entries_at (get m d)) + times c (entries_at (get m e)) ≤ named m c
named_twice m c d e apart =
    let law : named (remove m d) c + times c (entries_at (get m d)) ≡ named m c + 0 = named-set m d None c in
    let part : times c (entries_at (get (remove m d) e)) ≤ named (remove m d) c = named_part (remove m d) c e in
    let same : times c (entries_at (get (remove m d) e)) ≡ times c (entries_at (get m e)) = ap (λ o. times c (entries_at o)) (get-set_other m d None e apart) in
    omega arith

-- how often what has a parent is named in a directory
times_under : {m : Inodes} → IsHeld m → (q p c : ℕ) → parent_of m q ≡ Some p → times q (entries_at (get m c)) ≡ one p c
times_under {m = m} homes q p c up = by_test (eqb p c) refl
  where
    by_test : (b : Bool) → eqb p c ≡ b → times q (entries_at (get m c)) ≡ cond b 1 0
    by_test true is =
        let least : 1 ≤ times q (entries_at (get m c)) = subst (λ d. 1 ≤ times q (entries_at (get m d))) (eqb-true p c is) (homes.held q p up) in
        let most : times q (entries_at (get m c)) ≤ named m q = named_part m q c in
        let once : named m q ≡ 1 = homes.once q p up in
        omega arith
    by_test false other =
        let least : 1 ≤ times q (entries_at (get m p)) = homes.held q p up in
        let most : times q (entries_at (get m p)) + times q (entries_at (get m c)) ≤ named m q = named_twice m q p c (λ same. true≢false (sym (eq-eqb p c same) ∙ other)) in
        let once : named m q ≡ 1 = homes.once q p up in
        omega arith

by_body : (es : List Entry) (c q : ℕ) (b : Bool) (body : Body) → eqb q root_id ≡ b → times root_id es ≡ 0 → ((p : ℕ) → cond b None (parent_in body) ≡ Some p → times q es ≡ one p c)
    → hit (cond b None (parent_in body)) c ≡ cond (is_directory_body body) (times q es) 0
by_body es c q true (file bytes) is root up = refl
by_body es c q false (file bytes) is root up = refl
by_body es c q true (link path) is root up = refl
by_body es c q false (link path) is root up = refl
by_body es c q true (directory listing) is root up = sym root ∙ ap (λ k. times k es) (sym (eqb-true q root_id is))
by_body es c q false (directory listing) is root up = sym (up listing.parent refl)

under_is : (m : Inodes) → IsHeld m → (c : ℕ) → under m c ≡ directories_among m (entries_at (get m c))
under_is m homes c =
    let none : times root_id (entries_at (get m c)) ≡ 0 = let part = named_part m root_id c in let root : named m root_id ≡ 0 = homes.root in omega arith in
    weigh_same (λ k x. hit (above k (Some x)) c) (folder_times (entries_at (get m c))) m
    (λ q x is. by_body (entries_at (get m c)) c q (eqb q root_id) x.body refl none (λ p up. times_under homes q p c (ap (above q) is ∙ up)))
    ∙ swapped m (entries_at (get m c))

-- What an inode says, by its kind --------------------------------------------------------------------------------------

due_plain : (c : ℕ) (x : Inode) (body : Body) → IsFalse (is_directory_body body) → due c (Some (record x { body = body })) ≡ x.links
due_plain c x (file bytes) plain = refl
due_plain c x (link path) plain = refl
due_plain c x (directory listing) plain = absurd (true≢false plain)

due_body : (c : ℕ) (x : Inode) (body : Body) → IsTrue (is_directory_body body) → due c (Some (record x { body = body })) ≡ cond (eqb c root_id) 0 1
due_body c x (file bytes) folder = absurd (true≢false (sym folder))
due_body c x (link path) folder = absurd (true≢false (sym folder))
due_body c x (directory listing) folder = refl

due_folder : (c : ℕ) (o : Option Inode) → IsTrue (is_directory o) → due c o ≡ cond (eqb c root_id) 0 1
due_folder c None folder = absurd (true≢false (sym folder))
due_folder c (Some x) folder = due_body c x x.body folder

-- only a directory that is not the root has a parent
parent_body : (body : Body) (p : ℕ) → parent_in body ≡ Some p → IsTrue (is_directory_body body)
parent_body (file bytes) p up = cc
parent_body (link path) p up = cc
parent_body (directory listing) p up = refl

parent_says : (o : Option Inode) (b : Bool) (p : ℕ) → cond b None (parent_at o) ≡ Some p → IsTrue (is_directory o) × IsFalse b
parent_says o true p up = absurd cc
parent_says None false p up = absurd cc
parent_says (Some x) false p up = (parent_body x.body p up, refl)

not_root : (q : ℕ) → eqb q root_id ≡ false → q ≡ root_id → ⊥
not_root q other same = true≢false (sym (eq-eqb q root_id same) ∙ other)

-- From the words -------------------------------------------------------------------------------------------------------

homes_of_tree : {m : Inodes} → IsTree m → IsHeld m
homes_of_tree {m = m} tree = record { held = held; once = once; root = tree.root_unnamed }
  where
    once : (q p : ℕ) → parent_of m q ≡ Some p → named m q ≡ 1
    once q p up = let says = parent_says (get m q) (eqb q root_id) p up in tree.named_once q says.0 (not_root q says.1)

    elsewhere : (q p : ℕ) → parent_of m q ≡ Some p → times q (entries_at (get m p)) < 1 → (d : ℕ) → times q (entries_at (get m d)) ≡ 0
    elsewhere q p up none d = elim (cases_lt 0 (times q (entries_at (get m d)))) [
      | inl some ↦
          let here : times q (entries_at (get m p)) ≡ times q (entries_at (get m d)) = ap (λ k. times q (entries_at (get m k))) (tree.in_parent d q p (omega arith) up) in
          omega arith
      | inr less ↦ omega arith
    ]

    held : (q p : ℕ) → parent_of m q ≡ Some p → 1 ≤ times q (entries_at (get m p))
    held q p up = elim (cases_lt (times q (entries_at (get m p))) 1) [
      | inl none ↦
          let all : named m q ≡ 0 = weigh_zero (λ k x. times q (entries_in x.body)) m (λ d x is. ap (λ o. times q (entries_at o)) (sym is) ∙ elsewhere q p up none d) in
          let one : named m q ≡ 1 = once q p up in
          absurd (omega arith)
      | inr some ↦ some
    ]

unnamed : {m : Inodes} → IsTree m → (c : ℕ) → get m c ≡ None → named m c ≡ 0
unnamed {m = m} tree c absent = weigh_zero (λ k x. times c (entries_in x.body)) m (λ d x is. ap (λ o. times c (entries_at o)) (sym is) ∙ nowhere d)
  where
    nowhere : (d : ℕ) → times c (entries_at (get m d)) ≡ 0
    nowhere d = elim (cases_lt 0 (times c (entries_at (get m d)))) [
      | inl some ↦ absurd (true≢false (sym (tree.there d c (omega arith)) ∙ ap is_some absent))
      | inr none ↦ omega arith
    ]

names_by_kind : {m : Inodes} → IsTree m → (c : ℕ) (x : Inode) → get m c ≡ Some x → (b : Bool) → is_directory_body x.body ≡ b → named m c ≡ due c (Some x)
names_by_kind tree c x is false plain = sym (tree.links c x is plain) ∙ sym (due_plain c x x.body plain)
names_by_kind {m = m} tree c x is true folder = by_root (eqb c root_id) refl ∙ sym (due_body c x x.body folder)
  where
    by_root : (b : Bool) → eqb c root_id ≡ b → named m c ≡ cond b 0 1
    by_root true root = ap (named m) (eqb-true c root_id root) ∙ tree.root_unnamed
    by_root false other = tree.named_once c (ap is_directory is ∙ folder) (not_root c other)

names_at : {m : Inodes} → IsTree m → (c : ℕ) (o : Option Inode) → get m c ≡ o → named m c ≡ due c o
names_at tree c None absent = unnamed tree c absent
names_at tree c (Some x) is = names_by_kind tree c x is (is_directory_body x.body) refl

folders_by_body : (m : Inodes) (links count : ℕ) (body : Body) → count ≡ directories_among m (entries_in body)
    → (IsTrue (is_directory_body body) → links ≡ 2 + directories_among m (entries_in body)) → count + cond (is_directory_body body) 2 0 ≡ cond (is_directory_body body) links 0
folders_by_body m links count (file bytes) none counted = omega arith
folders_by_body m links count (link path) none counted = omega arith
folders_by_body m links count (directory listing) among counted = let two : links ≡ 2 + directories_among m listing.entries = counted refl in omega arith

folders_at : {m : Inodes} → IsTree m → (c : ℕ) (o : Option Inode) → get m c ≡ o → under m c ≡ directories_among m (entries_at o) → under m c + own o ≡ links_at o
folders_at tree c None absent none = omega arith
folders_at {m = m} tree c (Some x) is among = folders_by_body m x.links (under m c) x.body among (tree.directory_links c x is)

pub formed_from : {m : Inodes} → IsTree m → WellFormed m
formed_from {m = m} tree = record {
  names = λ c. ap (λ n. n + 0) (names_at tree c (get m c) refl);
  folders = λ c. ap (λ n. n + 0) (folders_at tree c (get m c) refl (under_is m (homes_of_tree tree) c));
  held = λ c p up tight. (homes_of_tree tree).held c p up;
  reaches = tree.reaches;
  root = tree.root;
}

-- From the equations ---------------------------------------------------------------------------------------------------

names_of : {m : Inodes} → WellFormed m → (c : ℕ) → named m c ≡ due c (get m c)
names_of formed c = let names = formed.names c in omega arith

homes_of_formed : {m : Inodes} → WellFormed m → IsHeld m
homes_of_formed {m = m} formed = record {
  held = λ q p up. formed.held q p up refl;
  once = λ q p up. let says = parent_says (get m q) (eqb q root_id) p up in names_of formed q ∙ due_folder q (get m q) says.0 ∙ ap (λ b. cond b 0 1) says.1;
  root = names_of formed root_id ∙ due_folder root_id (get m root_id) formed.root;
}

links_by_body : (m : Inodes) (links count : ℕ) (body : Body) → count + cond (is_directory_body body) 2 0 ≡ cond (is_directory_body body) links 0 → count ≡ directories_among m (entries_in body)
    → IsTrue (is_directory_body body) → links ≡ 2 + directories_among m (entries_in body)
links_by_body m links count (file bytes) balance among folder = absurd (true≢false (sym folder))
links_by_body m links count (link path) balance among folder = absurd (true≢false (sym folder))
links_by_body m links count (directory listing) balance among folder = omega arith

-- what is named is there
there_of : (o : Option Inode) (c n : ℕ) → n ≡ due c o → 1 ≤ n → IsTrue (is_some o)
there_of None c n names some = absurd (omega arith)
there_of (Some x) c n names some = refl

pub words_from : {m : Inodes} → WellFormed m → IsTree m
words_from {m = m} formed = record {
  root = formed.root;
  there = λ dir id some. there_of (get m id) id (named m id) (names_of formed id) (let part = named_part m id dir in omega arith);
  links = λ id inode is plain. sym (names_of formed id ∙ ap (due id) is ∙ due_plain id inode inode.body plain);
  directory_links = λ id inode is.
      let folders : under m id + own (get m id) ≡ links_at (get m id) = (let balance = formed.folders id in omega arith) in
      let balance : under m id + own (Some inode) ≡ links_at (Some inode) = subst (λ o. under m id + own o ≡ links_at o) is folders in
      let among : under m id ≡ directories_among m (entries_in inode.body) = under_is m (homes_of_formed formed) id ∙ ap (λ o. directories_among m (entries_at o)) is in
      links_by_body m inode.links (under m id) inode.body balance among;
  root_unnamed = (homes_of_formed formed).root;
  named_once = λ id folder other. names_of formed id ∙ due_folder id (get m id) folder ∙ ap (λ b. cond b 0 1) (ne_eqb id root_id other);
  in_parent = λ dir id parent some up. elim (cases_eq parent dir) [
    | inl same ↦ same
    | inr apart ↦
        let homes = homes_of_formed formed in
        let held : 1 ≤ times id (entries_at (get m parent)) = homes.held id parent up in
        let once : named m id ≡ 1 = homes.once id parent up in
        let twice = named_twice m id parent dir apart in
        absurd (omega arith)
  ];
  reaches = formed.reaches;
}

-- A new tree -----------------------------------------------------------------------------------------------------------

-- the root is alone in it
root_alone : (id : ℕ) → ((get new_tree id ≡ Some new_root) × (id ≡ root_id)) ⊎ (get new_tree id ≡ None)
root_alone id = by_key (eqb root_id id) refl (get-set_at empty root_id (Some new_root) id)
  where
    by_key : (b : Bool) → eqb root_id id ≡ b → get new_tree id ≡ cond b (Some new_root) (get {R = nat_cmp} empty id) → ((get new_tree id ≡ Some new_root) × (id ≡ root_id)) ⊎ (get new_tree id ≡ None)
    by_key true same is = inl (is, sym (eqb-true root_id id same))
    by_key false other is = inr (is ∙ get-empty nat_cmp id)

no_entries : (id : ℕ) → entries_at (get new_tree id) ≡ []
no_entries id = elim (root_alone id) [ inl root ↦ ap entries_at root.0 | inr none ↦ ap entries_at none ]

none_named : (id : ℕ) → named new_tree id ≡ 0
none_named id = weigh_zero (λ k x. times id (entries_in x.body)) new_tree (λ d x is. ap (λ o. times id (entries_at o)) (sym is) ∙ ap (times id) (no_entries d))

nothing_in : (dir id : ℕ) → 1 ≤ times id (entries_at (get new_tree dir)) → ⊥
nothing_in dir id some = let none : times id (entries_at (get new_tree dir)) ≡ 0 = ap (times id) (no_entries dir) in omega arith

-- what is there is the root
is_root : (id : ℕ) → IsTrue (is_some (get new_tree id)) → (get new_tree id ≡ Some new_root) × (id ≡ root_id)
is_root id there = elim (root_alone id) [ inl root ↦ root | inr none ↦ absurd (true≢false (sym there ∙ ap is_some none)) ]

folder_is_there : (o : Option Inode) → IsTrue (is_directory o) → IsTrue (is_some o)
folder_is_there None folder = absurd (true≢false (sym folder))
folder_is_there (Some x) folder = refl

links_of : (o : Option Inode) → o ≡ Some new_root → (x : Inode) → o ≡ Some x → x.links ≡ 2 + directories_among new_tree (entries_in x.body)
links_of o root x is = subst (λ (r : Inode). r.links ≡ 2 + directories_among new_tree (entries_in r.body)) (same_Some new_root x (sym root ∙ is)) refl

pub new_tree_formed : IsTree new_tree
new_tree_formed = record {
  root = ap is_directory (get-set_here empty root_id (Some new_root));
  there = λ dir id some. absurd (nothing_in dir id some);
  links = λ id inode is plain. absurd (true≢false (sym (ap is_directory ((is_root id (ap is_some is)).0)) ∙ ap is_directory is ∙ plain));
  directory_links = λ id inode is folder. links_of (get new_tree id) (is_root id (ap is_some is)).0 inode is;
  root_unnamed = none_named root_id;
  named_once = λ id folder other. absurd (other (is_root id (folder_is_there (get new_tree id) folder)).1);
  in_parent = λ dir id parent some up. absurd (nothing_in dir id some);
  reaches = λ id folder. at_root (is_root id (folder_is_there (get new_tree id) folder)).1;
}
