-- The PRE-PREPARE of the highest view, among some.
use Rattle.std.proofs.Common.{◌≡◌, ℕ, ◌≤◌, Bool, cond, ltb, List, [], ◌∷◌, Some, refl, sym, subst, ◌∙◌}
use Rattle.std.specs.Cmp.{IsStrictWeakOrder}
use Rattle.std.specs.List.{Contains, best_of, fold}
use Rattle.std.proofs.lemmas.Bool.{ltb-false}
use Rattle.std.proofs.lemmas.List.MinMax.{IsStrictWeakOrder-by_number, IsStrictWeakOrder-flip}
use Rattle.bfs_log.specs.Showing.{later, latest}
use Rattle.bfs_messages.specs.Messages.{PrePrepare}
use Rattle.bfs_messages.specs.declared.signed.Signed.{Signed}
use Rattle.bfs_view_change.proofs.First.{is_first}
use Rattle.bfs_view_change.proofs.Members.{none_in, some_is}

abbrev pub view_of : Signed PrePrepare → ℕ
view_of p = p.message.vote.view

abbrev is_later : Signed PrePrepare → Signed PrePrepare → Bool
is_later p found = ltb (view_of found) (view_of p)

order : IsStrictWeakOrder is_later
order = IsStrictWeakOrder-flip (λ found p. ltb (view_of found) (view_of p)) (IsStrictWeakOrder-by_number view_of)

folded : (p : Signed PrePrepare) (ps : List (Signed PrePrepare)) → fold later (Some p) ps ≡ Some (best_of is_later p ps)
folded p [] = refl
folded p (x ∷ xs) = folded (cond (is_later x p) x p) xs

-- among some there is one, of a view as high as theirs
pub latest_in : (xs : List (Signed PrePrepare)) (x : Signed PrePrepare) → Contains xs x → (b : Signed PrePrepare) × (latest xs ≡ Some b) × (view_of x ≤ view_of b)
latest_in [] x m = absurd (none_in x m)
latest_in (a ∷ xs) x m = (best_of is_later a xs, folded a xs, ltb-false (view_of (best_of is_later a xs)) (view_of x) ((is_first order a xs).rest x m))

-- and it is one of them
pub latest_is : (xs : List (Signed PrePrepare)) (p : Signed PrePrepare) → latest xs ≡ Some p → Contains xs p
latest_is [] p e = absurd cc
latest_is (a ∷ xs) p e = subst (λ (z : Signed PrePrepare). Contains (a ∷ xs) z) (some_is _ p (sym (folded a xs) ∙ e)) (is_first order a xs).found
