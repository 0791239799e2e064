-- What is picked out of a finite map, and the changes of the map.
use Rattle.std.proofs.Common.{◌≡◌, ℕ, zero, suc, ◌+◌, ◌-◌, ◌<◌, ◌≤◌, Bool, true, false, T, List, [], ◌∷◌, cond, Option, Some, None, is_some, length, refl, ap, sym, subst, ◌∙◌, arith}
use Rattle.std.specs.Option.{option_and_then}
use Rattle.std.specs.Ordering.{nat_cmp, eq_by_cmp, is_lt, is_eq}
use Rattle.std.specs.declared.cmp.Ordering.{Ordering}
use Rattle.std.specs.declared.cmp.Ordering.TheVariants.{Less, Equal, Greater}
use Rattle.std.specs.FinMap.Entries.{below_all}
use Rattle.std.specs.FinMap.{FinMap, find, get, get-entries, insert, remove, entries, entries_sorted, len, len-entries, len-insert, len-remove, empty_of_len, get-empty, from_entries, from_sorted, entries-from_sorted, get-from_sorted, is_sorted, get-from_entries, get-insert, get-remove, same_map, nat_cmp-IsAntisymmetric}
use Rattle.std.proofs.lemmas.Cmp.{nat_cmp_total}
use Rattle.std.proofs.lemmas.Option.{none-some}
use Rattle.bfs_tree.proofs.MapLemmas.{first, second, both}
use Rattle.bfs_tree.specs.Maps.{with_picked, picked_entries, picked}
use Rattle.bfs_tree.specs.Inside.Counting.{one_if_some}

not_less : (o : Ordering) → T (is_lt o) → is_eq o ≡ false
not_less Less h = refl
not_less Equal h = absurd h
not_less Greater h = absurd h

equal : (o : Ordering) → T (is_eq o) → o ≡ Equal
equal Less h = absurd h
equal Equal h = refl
equal Greater h = absurd h

-- what ties with a key is not above it
less_apart : (q key k : ℕ) → q ≡ key → T (is_lt (nat_cmp key k)) → eq_by_cmp nat_cmp q k ≡ false
less_apart q key k is lt = ap (λ n. eq_by_cmp nat_cmp n k) is ∙ not_less (nat_cmp key k) lt

-- how many entries there are after a change
len_inserted : {X : Type 0} (m : FinMap nat_cmp X) (k : ℕ) (v : X) (was : Option X) → get m k ≡ was → len (insert m k v) + one_if_some was ≡ len m + 1
len_inserted m k v None is = omega (arith, len-insert nat_cmp_total m k v ∙ ap (λ o. cond (is_some o) (len m) (len m + 1)) is)
len_inserted m k v (Some x) is = omega (arith, len-insert nat_cmp_total m k v ∙ ap (λ o. cond (is_some o) (len m) (len m + 1)) is)

some_there : {X : Type 0} (m : FinMap nat_cmp X) (k : ℕ) (x : X) (n : ℕ) → get m k ≡ Some x → len m ≡ n → 0 < n
some_there m k x zero is none = absurd (none-some x (sym (ap (λ m. get m k) (empty_of_len m none) ∙ get-empty nat_cmp k) ∙ is))
some_there m k x (suc n) is more = omega arith

len_removed : {X : Type 0} (m : FinMap nat_cmp X) (k : ℕ) (was : Option X) → get m k ≡ was → len (remove m k) + one_if_some was ≡ len m
len_removed m k None is = omega (arith, len-remove nat_cmp_total m k ∙ ap (λ o. cond (is_some o) (len m - 1) (len m)) is)
len_removed m k (Some x) is = omega (arith, some_there m k x (len m) is refl, len-remove nat_cmp_total m k ∙ ap (λ o. cond (is_some o) (len m - 1) (len m)) is)

module _ {X Y : Type 0} (pick : X → Option Y) where
  below_with : (k key : ℕ) (o : Option Y) (es : List (ℕ × Y)) → T (is_lt (nat_cmp k key)) → T (below_all nat_cmp k es) → T (below_all nat_cmp k (with_picked key o es))
  below_with k key None es here h = h
  below_with k key (Some value) es here h = both _ _ here h

  below_picked : (k : ℕ) (es : List (ℕ × X)) → T (below_all nat_cmp k es) → T (below_all nat_cmp k (picked_entries pick es))
  below_picked k [] h = tt
  below_picked k (e ∷ es) h = below_with k e.0 (pick e.1) _ (first _ _ h) (below_picked k es (second _ _ h))

  sorted_with : (key : ℕ) (o : Option Y) (es : List (ℕ × Y)) → T (below_all nat_cmp key es) → T (is_sorted nat_cmp es) → T (is_sorted nat_cmp (with_picked key o es))
  sorted_with key None es here h = h
  sorted_with key (Some value) es here h = both _ _ here h

  sorted_picked : (es : List (ℕ × X)) → T (is_sorted nat_cmp es) → T (is_sorted nat_cmp (picked_entries pick es))
  sorted_picked [] h = tt
  sorted_picked (e ∷ es) h = sorted_with e.0 (pick e.1) _ (below_picked e.0 es (first _ _ h)) (sorted_picked es (second _ _ h))

  pub entries-picked : (m : FinMap nat_cmp X) → entries (picked pick m) ≡ picked_entries pick (entries m)
  unfolding picked
  entries-picked m =
      let s = sorted_picked (entries m) (entries_sorted m) in
      ap entries (same_map nat_cmp_total nat_cmp-IsAntisymmetric (from_entries (picked_entries pick (entries m))) (from_sorted (picked_entries pick (entries m))) (λ q. get-from_entries nat_cmp_total (picked_entries pick (entries m)) q ∙ sym (get-from_sorted nat_cmp (picked_entries pick (entries m)) q s)))
      ∙ entries-from_sorted nat_cmp (picked_entries pick (entries m)) s

  -- a key below all is not found
  find_below : (q key : ℕ) (es : List (ℕ × Y)) → T (eq_by_cmp nat_cmp q key) → T (below_all nat_cmp key es) → find nat_cmp q es ≡ None
  find_below q key [] at h = refl
  find_below q key (e ∷ es) at h = ap (λ b. cond b (Some e.1) (find nat_cmp q es)) (less_apart q key e.0 (nat_cmp-IsAntisymmetric q key (equal (nat_cmp q key) at)) (first _ _ h)) ∙ find_below q key es at (second _ _ h)

  find_with : (q key : ℕ) (o : Option Y) (b : Bool) (x : X) (es : List (ℕ × Y)) (rest : Option X) → pick x ≡ o → eq_by_cmp nat_cmp q key ≡ b → T (below_all nat_cmp key es) → find nat_cmp q es ≡ option_and_then pick rest
      → find nat_cmp q (with_picked key o es) ≡ option_and_then pick (cond b (Some x) rest)
  find_with q key None true x es rest is at below so = find_below q key es (subst T (sym at) tt) below ∙ sym is
  find_with q key None false x es rest is at below so = so
  find_with q key (Some value) true x es rest is at below so = ap (λ b. cond b (Some value) (find nat_cmp q es)) at ∙ sym is
  find_with q key (Some value) false x es rest is at below so = ap (λ b. cond b (Some value) (find nat_cmp q es)) at ∙ so

  find_picked : (q : ℕ) (es : List (ℕ × X)) → T (is_sorted nat_cmp es) → find nat_cmp q (picked_entries pick es) ≡ option_and_then pick (find nat_cmp q es)
  find_picked q [] h = refl
  find_picked q (e ∷ es) h = find_with q e.0 (pick e.1) (eq_by_cmp nat_cmp q e.0) e.1 (picked_entries pick es) (find nat_cmp q es) refl refl (below_picked e.0 es (first _ _ h)) (find_picked q es (second _ _ h))

  pub get-picked : (m : FinMap nat_cmp X) (q : ℕ) → get (picked pick m) q ≡ option_and_then pick (get m q)
  unfolding picked
  get-picked m q = get-from_entries nat_cmp_total (picked_entries pick (entries m)) q ∙ find_picked q (entries m) (entries_sorted m) ∙ ap (option_and_then pick) (sym (get-entries m q))

  -- what the changes of the map do to what is picked
  there : (b : Bool) (x : X) (y : Y) (rest : Option X) → pick x ≡ Some y → option_and_then pick (cond b (Some x) rest) ≡ cond b (Some y) (option_and_then pick rest)
  there true x y rest is = is
  there false x y rest is = refl

  gone : (b : Bool) (x : X) (rest : Option X) → pick x ≡ None → option_and_then pick (cond b (Some x) rest) ≡ cond b None (option_and_then pick rest)
  gone true x rest is = is
  gone false x rest is = refl

  out : (b : Bool) (rest : Option X) → option_and_then pick (cond b None rest) ≡ cond b None (option_and_then pick rest)
  out true rest = refl
  out false rest = refl

  pub picked-insert : (m : FinMap nat_cmp X) (k : ℕ) (x : X) (y : Y) → pick x ≡ Some y → picked pick (insert m k x) ≡ insert (picked pick m) k y
  picked-insert m k x y is = same_map nat_cmp_total nat_cmp-IsAntisymmetric _ _ (λ q.
      get-picked (insert m k x) q ∙ ap (option_and_then pick) (get-insert nat_cmp_total m k x q) ∙ there (eq_by_cmp nat_cmp q k) x y (get m q) is
      ∙ sym (get-insert nat_cmp_total (picked pick m) k y q ∙ ap (cond (eq_by_cmp nat_cmp q k) (Some y)) (get-picked m q)))

  pub picked-none : (m : FinMap nat_cmp X) (k : ℕ) (x : X) → pick x ≡ None → picked pick (insert m k x) ≡ remove (picked pick m) k
  picked-none m k x is = same_map nat_cmp_total nat_cmp-IsAntisymmetric _ _ (λ q.
      get-picked (insert m k x) q ∙ ap (option_and_then pick) (get-insert nat_cmp_total m k x q) ∙ gone (eq_by_cmp nat_cmp q k) x (get m q) is
      ∙ sym (get-remove nat_cmp_total (picked pick m) k q ∙ ap (cond (eq_by_cmp nat_cmp q k) None) (get-picked m q)))

  pub picked-remove : (m : FinMap nat_cmp X) (k : ℕ) → picked pick (remove m k) ≡ remove (picked pick m) k
  picked-remove m k = same_map nat_cmp_total nat_cmp-IsAntisymmetric _ _ (λ q.
      get-picked (remove m k) q ∙ ap (option_and_then pick) (get-remove nat_cmp_total m k q) ∙ out (eq_by_cmp nat_cmp q k) (get m q)
      ∙ sym (get-remove nat_cmp_total (picked pick m) k q ∙ ap (cond (eq_by_cmp nat_cmp q k) None) (get-picked m q)))

  -- how many are picked of the changed map
  len_with : (m : FinMap nat_cmp X) (k : ℕ) (x : X) (o : Option Y) → pick x ≡ o → len (picked pick (insert m k x)) + one_if_some (option_and_then pick (get m k)) ≡ len (picked pick m) + one_if_some o
  len_with m k x None is = ap (λ n. len n + one_if_some (option_and_then pick (get m k))) (picked-none m k x is) ∙ len_removed (picked pick m) k _ (get-picked m k) ∙ omega arith
  len_with m k x (Some y) is = ap (λ n. len n + one_if_some (option_and_then pick (get m k))) (picked-insert m k x y is) ∙ len_inserted (picked pick m) k y _ (get-picked m k)

  pub len-picked-insert : (m : FinMap nat_cmp X) (k : ℕ) (x : X) → len (picked pick (insert m k x)) + one_if_some (option_and_then pick (get m k)) ≡ len (picked pick m) + one_if_some (pick x)
  len-picked-insert m k x = len_with m k x (pick x) refl

  pub len-picked-remove : (m : FinMap nat_cmp X) (k : ℕ) → len (picked pick (remove m k)) + one_if_some (option_and_then pick (get m k)) ≡ len (picked pick m)
  len-picked-remove m k = ap (λ n. len n + one_if_some (option_and_then pick (get m k))) (picked-remove m k) ∙ len_removed (picked pick m) k _ (get-picked m k)

  length_with : (key : ℕ) (o : Option Y) (es : List (ℕ × Y)) (n : ℕ) → length es ≤ n → length (with_picked key o es) ≤ n + 1
  length_with key None es n le = omega arith
  length_with key (Some value) es n le = omega arith

  length_picked : (es : List (ℕ × X)) → length (picked_entries pick es) ≤ length es
  length_picked [] = omega arith
  length_picked (e ∷ es) = omega (arith, length_with e.0 (pick e.1) (picked_entries pick es) (length es) (length_picked es))

  -- no more are picked than there are
  pub few_picked : (m : FinMap nat_cmp X) → len (picked pick m) ≤ len m
  few_picked m =
      let picked_len = len-entries (picked pick m) ∙ ap length (entries-picked m) in
      let all = len-entries m in
      let few = length_picked (entries m) in
      omega (arith, picked_len, all, few)
