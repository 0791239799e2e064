-- A tree by two equations for every fileid, absent ones too: how many entries name it, and how many directories have it as
-- their parent, against what its inode says. Both are sums over the map, so a change of one inode changes them at one place.
use Rattle.std.proofs.Common.{◌≡◌, ℕ, ◌+◌, ◌≤◌, Bool, true, false, cond, ◌&&◌, T, eqb, IsTrue, IsFalse, List, [], ◌∷◌, Option, Some, None, Ordering, Less, Equal, Greater, sum_by, ◌⊎◌, inl, inr, refl, sym, ap, subst, ◌∙◌, arith}
use Rattle.std.specs.Ordering.{nat_cmp, eq_by_cmp, is_lt, is_eq, match_ordering}
use Rattle.std.specs.Cmp.{nat_cmp_total, eq_by_cmp_equiv, both_ways}
use Rattle.std.specs.FinMap.{FinMap, find, put, is_sorted, get, insert, remove, entries, entries_sorted, entries-insert, get-entries, get-insert, get-remove, same_map, nat_cmp-IsAntisymmetric}
use Rattle.std.proofs.lemmas.List.Sums.{sum_by-cons}
use Rattle.std.proofs.lemmas.Bool.{eq-eqb, ne_eqb, eqb-true, cond-true, cond-false}
use Rattle.std.proofs.lemmas.Map.Views.{tells_apart}
use Rattle.bfs_model.specs.Server.Tree.{Body, file, directory, link, Inode, Inodes, root_id, is_directory_body, is_directory, entries_in, entries_at, parent_at, parent_of}
use Rattle.bfs_model.specs.Server.Conflicts.{set_at}
use Rattle.bfs_model.specs.Server.WellFormed.{times, named, ReachesRoot, at_root, step}

-- Sums over a map ------------------------------------------------------------------------------------------------------

abbrev pub weigh : {X : Type 0} → (ℕ → X → ℕ) → FinMap nat_cmp X → ℕ
weigh f m = sum_by (λ e. f e.0 e.1) (entries m)

-- what a value weighs at its key, where it is there
abbrev pub weight_at : {X : Type 0} → (ℕ → X → ℕ) → ℕ → Option X → ℕ
weight_at f k None = 0
weight_at f k (Some x) = f k x

abbrev total : {X : Type 0} → (ℕ → X → ℕ) → List (ℕ × X) → ℕ
total f [] = 0
total f (e ∷ es) = f e.0 e.1 + total f es

total_is : {X : Type 0} (f : ℕ → X → ℕ) (es : List (ℕ × X)) → sum_by (λ e. f e.0 e.1) es ≡ total f es
total_is f [] = refl
total_is f (e ∷ es) = sum_by-cons (λ d. f d.0 d.1) e es ∙ ap (λ n. f e.0 e.1 + n) (total_is f es)

-- whether all keys are above one, as maps test it
abbrev below_all : {X : Type 0} → ℕ → List (ℕ × X) → Bool
below_all x [] = true
below_all x (e ∷ es) = is_lt (nat_cmp x e.0) && below_all x es

-- keys above a key are not that key
less_is_not : (r : Ordering) → T (is_lt r) → is_eq r ≡ false
less_is_not Less h = refl
less_is_not Equal h = absurd h
less_is_not Greater h = absurd h

less_is : (r : Ordering) → T (is_lt r) → r ≡ Less
less_is Less h = refl
less_is Equal h = absurd h
less_is Greater h = absurd h

-- both of two tests
pub split : (a b : Bool) → T (a && b) → T a × T b
split true b h = (tt, h)
split false b h = absurd h

find_below : {X : Type 0} (k : ℕ) (es : List (ℕ × X)) → T (below_all k es) → find nat_cmp k es ≡ None
find_below k [] h = refl
find_below k (e ∷ es) h =
    let parts : T (is_lt (nat_cmp k e.0)) × T (below_all k es) = split (is_lt (nat_cmp k e.0)) (below_all k es) h in
    cond-false (is_eq (nat_cmp k e.0)) (Some e.1) (find nat_cmp k es) (less_is_not (nat_cmp k e.0) parts.0) ∙ find_below k es parts.1

below_less : {X : Type 0} (j k : ℕ) (es : List (ℕ × X)) → nat_cmp j k ≡ Less → T (below_all k es) → T (below_all j es)
below_less j k [] p h = tt
below_less j k (e ∷ es) p h =
    let parts : T (is_lt (nat_cmp k e.0)) × T (below_all k es) = split (is_lt (nat_cmp k e.0)) (below_all k es) h in
    subst (λ r. T (is_lt r && below_all j es)) (sym (nat_cmp_total.trans j k e.0 p (less_is (nat_cmp k e.0) parts.0))) (below_less j k es p parts.1)

total-put : {X : Type 0} (f : ℕ → X → ℕ) (k : ℕ) (v : X) (es : List (ℕ × X)) → T (is_sorted nat_cmp es) → total f (put nat_cmp k v es) + weight_at f k (find nat_cmp k es) ≡ total f es + f k v
total-put f k v [] h = omega arith
total-put f k v (e ∷ es) h =
    let parts : T (below_all e.0 es) × T (is_sorted nat_cmp es) = split (below_all e.0 es) (is_sorted nat_cmp es) h in
    let rest = total-put f k v es parts.1 in
    elim (nat_cmp k e.0) as (λ r. nat_cmp k e.0 ≡ r → total f (match_ordering r ((k, v) ∷ e ∷ es) ((e.0, v) ∷ es) (e ∷ put nat_cmp k v es)) + weight_at f k (cond (is_eq r) (Some e.1) (find nat_cmp k es)) ≡ (f e.0 e.1 + total f es) + f k v) [
      | Less ↦ λ p. let none : weight_at f k (find nat_cmp k es) ≡ 0 = ap (weight_at f k) (find_below k es (below_less k e.0 es p parts.0)) in omega arith
      | Equal ↦ λ p. let same : f e.0 v + f k e.1 ≡ f k v + f e.0 e.1 = rw (nat_cmp-IsAntisymmetric k e.0 p) refl in omega arith
      | Greater ↦ λ p. omega arith
    ] refl

-- a key ties with itself
pub itself : (k : ℕ) → eq_by_cmp nat_cmp k k ≡ true
itself k = (eq_by_cmp_equiv nat_cmp_total).refl k

-- what is found among keys above one is at another
pub apart : {X : Type 0} (k q : ℕ) (es : List (ℕ × X)) (x : X) → T (below_all k es) → find nat_cmp q es ≡ Some x → (b : Bool) → eq_by_cmp nat_cmp q k ≡ b → b ≡ false
apart k q es x below is true tied =
    let none : find nat_cmp k es ≡ None = find_below k es below in
    let same : find nat_cmp k es ≡ Some x = subst (λ j. find nat_cmp j es ≡ Some x) (tells_apart nat_cmp-IsAntisymmetric q k tied) is in
    absurd cc
apart k q es x below is false tied = refl

total_zero : {X : Type 0} (f : ℕ → X → ℕ) (es : List (ℕ × X)) → T (is_sorted nat_cmp es) → ((q : ℕ) (x : X) → find nat_cmp q es ≡ Some x → f q x ≡ 0) → total f es ≡ 0
total_zero f [] h zero = refl
total_zero f (e ∷ es) h zero =
    let parts : T (below_all e.0 es) × T (is_sorted nat_cmp es) = split (below_all e.0 es) (is_sorted nat_cmp es) h in
    let head : f e.0 e.1 ≡ 0 = zero e.0 e.1 (cond-true (eq_by_cmp nat_cmp e.0 e.0) (Some e.1) (find nat_cmp e.0 es) (itself e.0)) in
    let rest : total f es ≡ 0 = total_zero f es parts.1 (λ q x is. zero q x (cond-false (eq_by_cmp nat_cmp q e.0) (Some e.1) (find nat_cmp q es) (apart e.0 q es x parts.0 is (eq_by_cmp nat_cmp q e.0) refl) ∙ is)) in
    omega arith

-- Keys, by whether they are equal ---------------------------------------------------------------------------------------

pub same_test : (q k : ℕ) → eq_by_cmp nat_cmp q k ≡ eqb k q
same_test q k = both_ways (eq_by_cmp nat_cmp q k) (eqb k q) (λ is. eq-eqb k q (sym (tells_apart nat_cmp-IsAntisymmetric q k is))) (λ is. subst (λ j. eq_by_cmp nat_cmp q j ≡ true) (sym (eqb-true k q is)) (itself q))

pub get-set_at : {X : Type 0} (m : FinMap nat_cmp X) (k : ℕ) (o : Option X) (q : ℕ) → get (set_at m k o) q ≡ cond (eqb k q) o (get m q)
get-set_at m k None q = get-remove nat_cmp_total m k q ∙ ap (λ b. cond b None (get m q)) (same_test q k)
get-set_at m k (Some x) q = get-insert nat_cmp_total m k x q ∙ ap (λ b. cond b (Some x) (get m q)) (same_test q k)

pub get-set_here : {X : Type 0} (m : FinMap nat_cmp X) (k : ℕ) (o : Option X) → get (set_at m k o) k ≡ o
get-set_here m k o = get-set_at m k o k ∙ cond-true (eqb k k) o (get m k) (eq-eqb k k refl)

pub get-set_other : {X : Type 0} (m : FinMap nat_cmp X) (k : ℕ) (o : Option X) (q : ℕ) → (k ≡ q → ⊥) → get (set_at m k o) q ≡ get m q
get-set_other m k o q other = get-set_at m k o q ∙ cond-false (eqb k q) o (get m q) (ne_eqb k q other)

pub weigh-insert : {X : Type 0} (f : ℕ → X → ℕ) (m : FinMap nat_cmp X) (k : ℕ) (v : X) → weigh f (insert m k v) + weight_at f k (get m k) ≡ weigh f m + f k v
weigh-insert f m k v =
    let law : total f (put nat_cmp k v (entries m)) + weight_at f k (find nat_cmp k (entries m)) ≡ total f (entries m) + f k v = total-put f k v (entries m) (entries_sorted m) in
    let after : weigh f (insert m k v) ≡ total f (put nat_cmp k v (entries m)) = total_is f (entries (insert m k v)) ∙ ap (total f) (entries-insert nat_cmp_total m k v) in
    let before : weigh f m ≡ total f (entries m) = total_is f (entries m) in
    let old : weight_at f k (get m k) ≡ weight_at f k (find nat_cmp k (entries m)) = ap (weight_at f k) (get-entries m k) in
    omega arith

-- to take what is there, and put it back, changes nothing
put_back : {X : Type 0} (m : FinMap nat_cmp X) (k : ℕ) (v : X) → get m k ≡ Some v → insert (remove m k) k v ≡ m
put_back m k v there = same_map nat_cmp_total nat_cmp-IsAntisymmetric (insert (remove m k) k v) m (λ q. get-set_at (remove m k) k (Some v) q ∙ ap (cond (eqb k q) (Some v)) (get-set_at m k None q) ∙ at_key (eqb k q) q refl)
  where
    at_key : (b : Bool) (q : ℕ) → eqb k q ≡ b → cond b (Some v) (cond b None (get m q)) ≡ get m q
    at_key true q is = subst (λ j. Some v ≡ get m j) (eqb-true k q is) (sym there)
    at_key false q is = refl

remove_none : {X : Type 0} (m : FinMap nat_cmp X) (k : ℕ) → get m k ≡ None → remove m k ≡ m
remove_none m k absent = same_map nat_cmp_total nat_cmp-IsAntisymmetric (remove m k) m (λ q. get-set_at m k None q ∙ at_key (eqb k q) q refl)
  where
    at_key : (b : Bool) (q : ℕ) → eqb k q ≡ b → cond b None (get m q) ≡ get m q
    at_key true q is = subst (λ j. None ≡ get m j) (eqb-true k q is) (sym absent)
    at_key false q is = refl

weigh-remove : {X : Type 0} (f : ℕ → X → ℕ) (m : FinMap nat_cmp X) (k : ℕ) (o : Option X) → get m k ≡ o → weigh f (remove m k) + weight_at f k o ≡ weigh f m
weigh-remove f m k None absent = let same : weigh f (remove m k) ≡ weigh f m = ap (weigh f) (remove_none m k absent) in omega arith
weigh-remove f m k (Some v) there =
    let law : weigh f (insert (remove m k) k v) + weight_at f k (get (remove m k) k) ≡ weigh f (remove m k) + f k v = weigh-insert f (remove m k) k v in
    let gone : weight_at f k (get (remove m k) k) ≡ 0 = ap (weight_at f k) (get-set_here m k None) in
    let back : weigh f (insert (remove m k) k v) ≡ weigh f m = ap (weigh f) (put_back m k v there) in
    omega arith

-- a change at one key changes the sum at one place
pub weigh-set_at : {X : Type 0} (f : ℕ → X → ℕ) (m : FinMap nat_cmp X) (k : ℕ) (o : Option X) → weigh f (set_at m k o) + weight_at f k (get m k) ≡ weigh f m + weight_at f k o
weigh-set_at f m k None = let law : weigh f (remove m k) + weight_at f k (get m k) ≡ weigh f m = weigh-remove f m k (get m k) refl in omega arith
weigh-set_at f m k (Some x) = weigh-insert f m k x

pub weigh_zero : {X : Type 0} (f : ℕ → X → ℕ) (m : FinMap nat_cmp X) → ((q : ℕ) (x : X) → get m q ≡ Some x → f q x ≡ 0) → weigh f m ≡ 0
weigh_zero f m zero = total_is f (entries m) ∙ total_zero f (entries m) (entries_sorted m) (λ q x is. zero q x (get-entries m q ∙ is))

-- What an inode says ------------------------------------------------------------------------------------------------------

-- a number at one fileid, 0 elsewhere
abbrev pub only : (k v : ℕ) → ℕ → ℕ
only k v c = cond (eqb k c) v 0

abbrev pub one : (k : ℕ) → ℕ → ℕ
one k c = only k 1 c

-- the directory above what is at a fileid
abbrev pub above : (k : ℕ) → Option Inode → Option ℕ
above k o = cond (eqb k root_id) None (parent_at o)

abbrev pub hit : Option ℕ → (c : ℕ) → ℕ
hit None c = 0
hit (Some p) c = one p c

-- how many directories have it as their parent
abbrev pub under : Inodes → (c : ℕ) → ℕ
under m c = weigh (λ k x. hit (above k (Some x)) c) m

abbrev pub due_in : (c links : ℕ) → Body → ℕ
due_in c links (file bytes) = links
due_in c links (directory listing) = cond (eqb c root_id) 0 1
due_in c links (link path) = links

-- how many entries have to name it: of a directory one, unless it is the root
abbrev pub due : (c : ℕ) → Option Inode → ℕ
due c None = 0
due c (Some x) = due_in c x.links x.body

-- the links of a directory
abbrev pub links_at : Option Inode → ℕ
links_at None = 0
links_at (Some x) = cond (is_directory_body x.body) x.links 0

-- those that are its own
abbrev pub own : Option Inode → ℕ
own o = cond (is_directory o) 2 0

-- Where it owes nothing it is a tree --------------------------------------------------------------------------------------

-- A tree but for what is owed: entries to come, entries beyond the links, directories to come and directories beyond the links,
-- for each fileid, and whether its parent need not hold it.
pub record Owing (m : Inodes) (owed spare more less : ℕ → ℕ) (loose : ℕ → Bool) : Type 0 where
  pub names : (c : ℕ) → named m c + owed c ≡ due c (get m c) + spare c
  pub folders : (c : ℕ) → under m c + own (get m c) + more c ≡ links_at (get m c) + less c
  pub held : (c p : ℕ) → parent_of m c ≡ Some p → IsFalse (loose c) → 1 ≤ times c (entries_at (get m p))
  pub reaches : (d : ℕ) → IsTrue (is_directory (get m d)) → ReachesRoot (parent_of m) d
  pub root : IsTrue (is_directory (get m root_id))

abbrev pub nothing : ℕ → ℕ
nothing c = 0

abbrev pub none_loose : ℕ → Bool
none_loose c = false

abbrev pub WellFormed : Inodes → Type 0
WellFormed m = Owing m nothing nothing nothing nothing none_loose

-- What a change at one key does -------------------------------------------------------------------------------------------

times_at : (c k : ℕ) (o : Option Inode) → weight_at (λ j x. times c (entries_in x.body)) k o ≡ times c (entries_at o)
times_at c k None = refl
times_at c k (Some x) = refl

pub named-set : (m : Inodes) (k : ℕ) (o : Option Inode) (c : ℕ) → named (set_at m k o) c + times c (entries_at (get m k)) ≡ named m c + times c (entries_at o)
named-set m k o c =
    let law : named (set_at m k o) c + weight_at (λ j x. times c (entries_in x.body)) k (get m k) ≡ named m c + weight_at (λ j x. times c (entries_in x.body)) k o = weigh-set_at (λ j x. times c (entries_in x.body)) m k o in
    let was = times_at c k (get m k) in
    let is = times_at c k o in
    omega arith

pub hit_none : (b : Bool) (c : ℕ) → hit (cond b None None) c ≡ 0
hit_none true c = refl
hit_none false c = refl

hits_at : (c k : ℕ) (o : Option Inode) → weight_at (λ j x. hit (above j (Some x)) c) k o ≡ hit (above k o) c
hits_at c k None = sym (hit_none (eqb k root_id) c)
hits_at c k (Some x) = refl

pub under-set : (m : Inodes) (k : ℕ) (o : Option Inode) (c : ℕ) → under (set_at m k o) c + hit (parent_of m k) c ≡ under m c + hit (above k o) c
under-set m k o c =
    let law : under (set_at m k o) c + weight_at (λ j x. hit (above j (Some x)) c) k (get m k) ≡ under m c + weight_at (λ j x. hit (above j (Some x)) c) k o = weigh-set_at (λ j x. hit (above j (Some x)) c) m k o in
    let was = hits_at c k (get m k) in
    let is = hits_at c k o in
    omega arith

-- what is read of the inode at a fileid
pub at-set : (F : ℕ → Option Inode → ℕ) (m : Inodes) (k : ℕ) (o : Option Inode) (c : ℕ) → F c (get (set_at m k o) c) + only k (F k (get m k)) c ≡ F c (get m c) + only k (F k o) c
at-set F m k o c = subst (λ g. F c g + only k (F k (get m k)) c ≡ F c (get m c) + only k (F k o) c) (sym (get-set_at m k o c)) (by_key (eqb k c) refl)
  where
    by_key : (b : Bool) → eqb k c ≡ b → F c (cond b o (get m c)) + cond b (F k (get m k)) 0 ≡ F c (get m c) + cond b (F k o) 0
    by_key true is = subst (λ q. F q o + F k (get m k) ≡ F q (get m q) + F k o) (eqb-true k c is) (omega arith)
    by_key false is = refl

-- Ways up ---------------------------------------------------------------------------------------------------------------

-- what is above, with the way up from one id cut off
abbrev pub cut : (ℕ → Option ℕ) → (c : ℕ) → ℕ → Option ℕ
cut above c q = cond (eqb q c) None (above q)

-- a way up by one step function is one by another where each step of it is one, or has one from there
pub reaches_along : (above other : ℕ → Option ℕ) (Good : ℕ → Type 0)
    → ((q p : ℕ) → Good q → above q ≡ Some p → ((other q ≡ Some p) × Good p) ⊎ ReachesRoot other q)
    → (d : ℕ) → ReachesRoot above d → Good d → ReachesRoot other d
reaches_along above other Good steps d (at_root is) good = at_root is
reaches_along above other Good steps d (step p up r) good =
    elim (steps d p good up) [
      | inl go ↦ step p go.0 (reaches_along above other Good steps p r go.1)
      | inr way ↦ way
    ]
