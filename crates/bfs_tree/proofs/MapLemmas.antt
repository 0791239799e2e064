-- What the changes of a `BTreeMap` do to the finite map that it stands for.
use Rattle.std.proofs.Common.{◌≡◌, ℕ, Bool, true, false, ◌&&◌, T, List, [], ◌∷◌, cond, Some, None, length, refl, ap, sym, subst, ◌∙◌}
use Rattle.std.specs.Ordering.{nat_cmp, eq_by_cmp, is_lt}
use Rattle.std.specs.Map.{lookup, keys_of}
use Rattle.std.specs.List.{AllByRecursion}
use Rattle.std.specs.List.Sorted.{IsStrictlySortedBy, IsStrictlyIncreasing}
use Rattle.std.proofs.lemmas.Map.Keys.{IsStrictlyIncreasing-from_sorted}
use Rattle.std.specs.declared.cmp.Ordering.{Ordering}
use Rattle.std.specs.declared.cmp.Ordering.TheVariants.{Less, Equal, Greater}
use Rattle.std.specs.FinMap.Entries.{below_all}
use Rattle.std.specs.BTreeMap as tree
use Rattle.std.specs.BTreeMap.{BTreeMap, is_at, IsEmpty, IsOrdered, IsUnchanged, Updates}
use Rattle.std.specs.FinMap.{FinMap, keys, entries_sorted, find, get, insert, remove, empty, entries, len, len-entries, from_entries, from_sorted, entries-from_sorted, get-from_sorted, is_sorted, get-from_entries, get-insert, get-remove, same_map, nat_cmp-IsAntisymmetric}
use Rattle.std.proofs.lemmas.Cmp.{nat_cmp_total, eq_by_cmp_equiv}
use Rattle.bfs_tree.specs.Maps.{map_of}

find_as_lookup : {X : Type 0} (q : ℕ) (es : List (ℕ × X)) → find nat_cmp q es ≡ lookup (is_at (nat_cmp q)) es
find_as_lookup q [] = refl
find_as_lookup q (e ∷ es) = ap (cond (eq_by_cmp nat_cmp q e.0) (Some e.1)) (find_as_lookup q es)

pub get-map_of : {X : Type 0} (m : BTreeMap ℕ X) (q : ℕ) → get (map_of m) q ≡ tree.get nat_cmp m q
unfolding map_of
get-map_of m q = get-from_entries nat_cmp_total m.entries q ∙ find_as_lookup q m.entries

pub map_of-empty : {X : Type 0} (m : BTreeMap ℕ X) → IsEmpty m → map_of m ≡ empty
unfolding map_of
map_of-empty m none = ap from_entries none

pub map_of-inserts : {X : Type 0} (m n : BTreeMap ℕ X) (k : ℕ) (v : X) → Updates nat_cmp m n k (Some v) → map_of n ≡ insert (map_of m) k v
map_of-inserts m n k v updates = same_map nat_cmp_total nat_cmp-IsAntisymmetric _ _ (λ q.
    get-map_of n q ∙ updates.0 q
    ∙ ap (λ b. cond b (Some v) (tree.get nat_cmp m q)) ((eq_by_cmp_equiv nat_cmp_total).symm k q)
    ∙ ap (cond (eq_by_cmp nat_cmp q k) (Some v)) (sym (get-map_of m q))
    ∙ sym (get-insert nat_cmp_total (map_of m) k v q))

pub map_of-removes : {X : Type 0} (m n : BTreeMap ℕ X) (k : ℕ) → Updates nat_cmp m n k None → map_of n ≡ remove (map_of m) k
map_of-removes m n k updates = same_map nat_cmp_total nat_cmp-IsAntisymmetric _ _ (λ q.
    get-map_of n q ∙ updates.0 q
    ∙ ap (λ b. cond b None (tree.get nat_cmp m q)) ((eq_by_cmp_equiv nat_cmp_total).symm k q)
    ∙ ap (cond (eq_by_cmp nat_cmp q k) None) (sym (get-map_of m q))
    ∙ sym (get-remove nat_cmp_total (map_of m) k q))

pub map_of-unchanged : {X : Type 0} (m n : BTreeMap ℕ X) → IsUnchanged m n → map_of n ≡ map_of m
unfolding map_of
map_of-unchanged m n same = ap from_entries same

-- The entries of a `BTreeMap`, which are in order, are those of the finite map ----------------------------------------

pub both : (a b : Bool) → T a → T b → T (a && b)
both true b p q = q
both false b p q = p

below : {X : Type 0} (k : ℕ) (es : List (ℕ × X)) → AllByRecursion (λ y. nat_cmp k y ≡ Less) (keys_of es) → T (below_all nat_cmp k es)
below k [] h = tt
below k (e ∷ es) h = both _ _ (subst (λ r. T (is_lt r)) (sym h.0) tt) (below k es h.1)

sorted : {X : Type 0} (es : List (ℕ × X)) → IsStrictlySortedBy nat_cmp (keys_of es) → T (is_sorted nat_cmp es)
unfolding IsStrictlySortedBy
sorted [] h = tt
sorted (e ∷ es) h = both _ _ (below e.0 es h.0) (sorted es h.1)

pub first : (a b : Bool) → T (a && b) → T a
first true b p = tt
first false b p = p

pub second : (a b : Bool) → T (a && b) → T b
second true b p = p
second false b p = absurd p

less : (o : Ordering) → T (is_lt o) → o ≡ Less
less Less p = refl
less Equal p = absurd p
less Greater p = absurd p

all_above : {X : Type 0} (k : ℕ) (es : List (ℕ × X)) → T (below_all nat_cmp k es) → AllByRecursion (λ y. nat_cmp k y ≡ Less) (keys_of es)
all_above k [] h = tt
all_above k (e ∷ es) h = (less (nat_cmp k e.0) (first _ _ h), all_above k es (second _ _ h))

-- the keys of a finite map rise
pub rising : {X : Type 0} (es : List (ℕ × X)) → T (is_sorted nat_cmp es) → IsStrictlySortedBy nat_cmp (keys_of es)
unfolding IsStrictlySortedBy
rising [] h = tt
rising (e ∷ es) h = (all_above e.0 es (first _ _ h), rising es (second _ _ h))

pub keys_rise : {X : Type 0} (m : FinMap nat_cmp X) → IsStrictlyIncreasing (keys m)
keys_rise m = IsStrictlyIncreasing-from_sorted (keys m) (rising (entries m) (entries_sorted m))

pub entries_map_of : {X : Type 0} (m : BTreeMap ℕ X) → IsOrdered nat_cmp m → entries (map_of m) ≡ m.entries
entries_map_of {X} m ordered =
    let s = sorted m.entries ordered in
    ap entries (same_map nat_cmp_total nat_cmp-IsAntisymmetric (map_of m) (from_sorted m.entries) (λ q. get-map_of m q ∙ sym (find_as_lookup q m.entries) ∙ sym (get-from_sorted nat_cmp m.entries q s)))
    ∙ entries-from_sorted nat_cmp m.entries s

pub len-map_of : {X : Type 0} (m : BTreeMap ℕ X) → IsOrdered nat_cmp m → len (map_of m) ≡ length m.entries
len-map_of m ordered = len-entries (map_of m) ∙ ap length (entries_map_of m ordered)
