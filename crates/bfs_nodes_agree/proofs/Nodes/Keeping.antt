-- VIEW-CHANGEs that a node keeps: each at its sender's place, and of each something holds.
use Rattle.std.proofs.Common.{◌≡◌, ℕ, zero, suc, ◌+◌, ◌≤◌, ◌==◌, Bool, true, false, cond, List, [], ◌∷◌, Option, Some, None, length, map, replicate, slice_set, inl, inr, refl, ap, subst, ◌∙◌, arith}
use Rattle.std.specs.Prelude.{filter_map, nat_lt}
use Rattle.std.specs.List.{cons_option}
use Rattle.std.proofs.lemmas.Bool.{cond_both, eqb-true, eq-eqb}
use Rattle.std.proofs.lemmas.List.{length-map, length-set}
use Rattle.bfs_votes.specs.Votes.{count_below, replicas}
use Rattle.bfs_messages.specs.Messages as model
use Rattle.bfs_messages.specs.declared.signed.Signed.{Signed}
use Rattle.bfs_agreement.specs.Histories.{IsIn}
use Rattle.bfs_nodes_agree.proofs.Orders.Lists.{AllIn, any_in, more_in, none_in}
use Rattle.bfs_view_change.specs.Changes.Keeping.{Kept, above_view, changes_for, if_above, if_for, with_change}
use Rattle.bfs_view_change.specs.Changes.NewViews.{is_any_from, senders}

no_less : (p : ℕ → Bool) (k : ℕ) → count_below p k ≤ count_below p (suc k)
no_less p k = elim (p k) as (λ b. count_below p k ≤ cond b (1 + count_below p k) (count_below p k)) [ true ↦ omega arith | false ↦ omega arith ]

module _ (Good : Signed model.ViewChange → Type 0) where
  -- at the place of its sender
  abbrev pub IsGoodAt : (k : ℕ) → Option (Signed model.ViewChange) → Type 0
  IsGoodAt k None = Unit {0}
  IsGoodAt k (Some s) = (s.message.sender ≡ k) × Good s

  abbrev pub AreGoodFrom : (k : ℕ) → List (Option (Signed model.ViewChange)) → Type 0
  AreGoodFrom k [] = Unit {0}
  AreGoodFrom k (x ∷ xs) = IsGoodAt k x × AreGoodFrom (suc k) xs

  abbrev pub AreKept : (f : ℕ) → Kept → Type 0
  AreKept f kept = (length kept.changes ≡ replicas f) × AreGoodFrom 0 kept.changes

  pub none_kept : (k n : ℕ) → AreGoodFrom k (replicate n None)
  none_kept k zero = tt
  none_kept k (suc n) = (tt, none_kept (suc k) n)

  set_good : (s : Signed model.ViewChange) → Good s → (k i : ℕ) (xs : List (Option (Signed model.ViewChange))) → s.message.sender ≡ k + i → AreGoodFrom k xs → AreGoodFrom k (slice_set xs i (Some s))
  set_good s good k i [] at all = tt
  set_good s good k zero (x ∷ xs) at all = ((omega (arith, at), good), all.1)
  set_good s good k (suc i) (x ∷ xs) at all = (all.0, set_good s good (suc k) i xs (omega (arith, at)) all.1)

  pub kept_with : (f : ℕ) (kept : Kept) (s : Signed model.ViewChange) → Good s → AreKept f kept → AreKept f (with_change kept s)
  kept_with f kept s good are = (length-set kept.changes s.message.sender (Some s) ∙ are.0, set_good s good 0 s.message.sender kept.changes (omega arith) are.1)

  above_good : (v k : ℕ) (xs : List (Option (Signed model.ViewChange))) → AreGoodFrom k xs → AreGoodFrom k (map (if_above v) xs)
  above_good v k [] all = tt
  above_good v k (None ∷ xs) all = (tt, above_good v (suc k) xs all.1)
  above_good v k (Some s ∷ xs) all = (cond_both (nat_lt v s.message.view) (Some s) None (IsGoodAt k) (λ _. all.0) (λ _. tt), above_good v (suc k) xs all.1)

  pub kept_above : (f v : ℕ) (kept : Kept) → AreKept f kept → AreKept f (above_view v kept)
  kept_above f v kept are = (length-map kept.changes (if_above v) ∙ are.0, above_good v 0 kept.changes are.1)

  -- Those for a view --------------------------------------------------------------------------------------------------------

  abbrev pub IsGoodFor : (v : ℕ) → Signed model.ViewChange → Type 0
  IsGoodFor v s = (s.message.view ≡ v) × Good s

  pub good_for : (v k : ℕ) (xs : List (Option (Signed model.ViewChange))) → AreGoodFrom k xs → AllIn (IsGoodFor v) (filter_map (if_for v) xs)
  good_for v k [] all = none_in (IsGoodFor v)
  good_for v k (None ∷ xs) all = good_for v (suc k) xs all.1
  good_for v k (Some s ∷ xs) all =
      let rest = good_for v (suc k) xs all.1 in
      cond_both (s.message.view == v) (Some s) None (λ (o : Option (Signed model.ViewChange)). AllIn (IsGoodFor v) (cons_option o (filter_map (if_for v) xs)))
      (λ e. more_in (IsGoodFor v) s (filter_map (if_for v) xs) (eqb-true s.message.view v e, all.0.1) rest) (λ _. rest)

  -- each stands at its sender's place, so as many senders pass
  many_pass : (v : ℕ) (p : ℕ → Bool) (k n : ℕ) (xs : List (Option (Signed model.ViewChange))) → AreGoodFrom k xs → k + length xs ≡ n
      → ((s : Signed model.ViewChange) → IsIn s (filter_map (if_for v) xs) → p s.message.sender ≡ true) → length (filter_map (if_for v) xs) + count_below p k ≤ count_below p n
  many_pass v p k n [] all e passes = let at : k ≡ n = omega (arith, e) in subst (λ (m : ℕ). 0 + count_below p k ≤ count_below p m) at (omega arith)
  many_pass v p k n (None ∷ xs) all e passes = let le = many_pass v p (suc k) n xs all.1 (omega (arith, e)) passes in let low = no_less p k in omega (arith, le, low)
  many_pass v p k n (Some s ∷ xs) all e passes =
      let later = many_pass v p (suc k) n xs all.1 (omega (arith, e)) in
      cond_both (s.message.view == v) (Some s) None
      (λ (o : Option (Signed model.ViewChange)). ((t : Signed model.ViewChange) → IsIn t (cons_option o (filter_map (if_for v) xs)) → p t.message.sender ≡ true)
      → length (cons_option o (filter_map (if_for v) xs)) + count_below p k ≤ count_below p n)
      (λ _ each.
      let le = later (λ t i. each t (inr i)) in
      let here : p k ≡ true = subst (λ (j : ℕ). p j ≡ true) all.0.0 (each s (inl refl)) in
      let next : count_below p (suc k) ≡ 1 + count_below p k = ap (λ (b : Bool). cond b (1 + count_below p k) (count_below p k)) here in
      omega (arith, le, next))
      (λ _ each. let le = later each in let low = no_less p k in omega (arith, le, low)) passes

  pub enough_for : (f v : ℕ) (kept : Kept) → AreKept f kept → length (changes_for v kept) ≤ senders f (changes_for v kept)
  enough_for f v kept are =
      let changes = changes_for v kept in
      let places = are.0 in
      let le = many_pass v (is_any_from changes) 0 (replicas f) kept.changes are.1 (omega (arith, places)) (λ s i.
      any_in (λ (m : Signed model.ViewChange). m.message.sender == s.message.sender) changes s i (eq-eqb s.message.sender s.message.sender refl)) in
      omega (arith, le)

pub good_on : (Good Better : Signed model.ViewChange → Type 0) → ((s : Signed model.ViewChange) → Good s → Better s) → (k : ℕ) (xs : List (Option (Signed model.ViewChange))) → AreGoodFrom Good k xs → AreGoodFrom Better k xs
good_on Good Better on k [] all = tt
good_on Good Better on k (None ∷ xs) all = (tt, good_on Good Better on (suc k) xs all.1)
good_on Good Better on k (Some s ∷ xs) all = ((all.0.0, on s all.0.1), good_on Good Better on (suc k) xs all.1)
