-- The best of a list of candidates: no other ranks before it.
use Rattle.std.proofs.Common.{◌≡◌, ◌≤◌, Bool, true, false, cond, ltb, eqb, List, [], ◌∷◌, Some, refl, ap, ⊎_elim}
use Rattle.std.specs.declared.cmp.Ordering.{Ordering}
use Rattle.std.specs.declared.cmp.Ordering.TheVariants.{Less, Equal, Greater}
use Rattle.std.specs.List.{Contains, best_of, fold}
use Rattle.std.specs.Cmp.{IsTotalOrder, IsStrictWeakOrder}
use Rattle.std.specs.Cmp.Lexicographic.{slice_cmp}
use Rattle.std.specs.Ordering.{nat_cmp, ordering_then, ordering_reverse, is_lt}
use Rattle.std.specs.FinMap.{nat_cmp-IsAntisymmetric, slice_cmp-IsAntisymmetric}
use Rattle.std.proofs.lemmas.Bool.{lt-ltb, cases_lt}
use Rattle.std.proofs.lemmas.Cmp.{nat_cmp_total, nat_list_cmp_total, on_total, then_total, back_total}
use Rattle.std.proofs.lemmas.List.MinMax.{ranks_by}
use Rattle.bfs_messages.specs.Batches.{batch_text}
use Rattle.bfs_view_change.specs.Changes.Choice.{Candidate, rank, better, best}
use Rattle.bfs_view_change.proofs.First.{IsFirst, is_first}
use Rattle.bfs_view_change.proofs.Members.{none_in}

pub rank_total : IsTotalOrder rank
rank_total = then_total (back_total (on_total (λ (c : Candidate). c.view) nat_cmp_total)) (then_total (on_total (λ (c : Candidate). c.sender) nat_cmp_total) (on_total (λ (c : Candidate). batch_text c.batch) nat_list_cmp_total))

abbrev pub beats : Candidate → Candidate → Bool
beats a b = is_lt (rank a b)

beats_order : IsStrictWeakOrder beats
beats_order = ranks_by rank_total (λ (c : Candidate). c)

folded : (a : Candidate) (xs : List Candidate) → fold better (Some a) xs ≡ Some (best_of beats a xs)
folded a [] = refl
folded a (x ∷ xs) = folded (cond (beats x a) x a) xs

-- of some candidates there is a best
pub best_is : (x : Candidate) (xs : List Candidate) → Contains xs x → (b : Candidate) × (best xs ≡ Some b) × IsFirst beats xs b
best_is x [] m = absurd (none_in x m)
best_is x (a ∷ xs) m = (best_of beats a xs, folded a xs, is_first beats_order a xs)

-- two of which neither beats the other have one rank
tied : (a b : Candidate) → beats a b ≡ false → beats b a ≡ false → rank a b ≡ Equal
tied a b e f = go (rank a b) (rank b a) (rank_total.antisymm b a) e f
  where
    go : (o p : Ordering) → p ≡ ordering_reverse o → is_lt o ≡ false → is_lt p ≡ false → o ≡ Equal
    go Less p h e f = absurd cc
    go Equal p h e f = refl
    go Greater p h e f = let g : is_lt p ≡ true = ap is_lt h in absurd cc

then_equal : (o p : Ordering) → ordering_then o p ≡ Equal → p ≡ Equal
then_equal Less p e = absurd cc
then_equal Equal p e = e
then_equal Greater p e = absurd cc

pub one_text : (a b : Candidate) → beats a b ≡ false → beats b a ≡ false → batch_text a.batch ≡ batch_text b.batch
one_text a b e f =
    let texts = slice_cmp nat_cmp (batch_text a.batch) (batch_text b.batch) in
    slice_cmp-IsAntisymmetric nat_cmp-IsAntisymmetric (batch_text a.batch) (batch_text b.batch)
    (then_equal (nat_cmp a.sender b.sender) texts (then_equal (nat_cmp b.view a.view) (ordering_then (nat_cmp a.sender b.sender) texts) (tied a b e f)))

-- a higher view is never passed over
pub views_fall : (a b : Candidate) → beats a b ≡ false → a.view ≤ b.view
views_fall a b e = ⊎_elim (λ lt. absurd (go (ltb b.view a.view) (lt-ltb b.view a.view lt) e)) (λ le. le) (cases_lt b.view a.view)
  where
    go : (t : Bool) → t ≡ true → is_lt (ordering_then (cond t Less (cond (eqb b.view a.view) Equal Greater)) (ordering_then (nat_cmp a.sender b.sender) (slice_cmp nat_cmp (batch_text a.batch) (batch_text b.batch)))) ≡ false → ⊥
    go true h f = absurd cc
    go false h f = absurd cc
