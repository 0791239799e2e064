-- VIEW-CHANGEs that are kept, one after another.
use Rattle.std.proofs.Common.{◌≡◌, ◌∙◌, ℕ, ◌+◌, ◌≤◌, ◌<◌, ◌==◌, Bool, true, false, List, [], ◌∷◌, ◌++◌, Option, Some, None, cond, length, take, get_or, slice_set, sym, ap, subst, refl, arith}
use Rattle.std.specs.Prelude.{All, count_by, is_some, nat_lt, option_to_list}
use Rattle.std.specs.List.{cons_option, filter_map}
use Rattle.std.proofs.lemmas.List.{length-map, set-get_or, set-set, take_more}
use Rattle.std.proofs.lemmas.List.Elements.{All-cons, All-head, All-map, All-nil, All-tail, filter_map-append}
use Rattle.std.proofs.lemmas.List.Sums.{sum_by-cons}
use Rattle.bfs_model.specs.Server.Limits.{most_replicas}
use Rattle.bfs_messages.specs.Messages.{ViewChange}
use Rattle.bfs_messages.specs.declared.signed.Signed.{Signed}
use Rattle.bfs_view_change.specs.Changes.Keeping.{Kept, above_view, if_above, if_for}
use Rattle.bfs_view_change.specs.Inside.Near.{AreFew, AreNear, IsNear, IsNearIfKept}

one_of : (view : ℕ) (kept : Option (Signed ViewChange)) → filter_map (if_for view) (kept ∷ []) ≡ option_to_list (if_for view kept)
one_of view kept = go (if_for view kept)
  where
    go : (found : Option (Signed ViewChange)) → filter_map (λ (x : Option (Signed ViewChange)). x) (found ∷ []) ≡ option_to_list found
    go None = refl
    go (Some s) = refl

pub one_more : (view : ℕ) (all : List (Option (Signed ViewChange))) (i : ℕ) (kept : Option (Signed ViewChange)) → i < length all → kept ≡ get_or all i kept
    → filter_map (if_for view) (take (i + 1) all) ≡ filter_map (if_for view) (take i all) ++ option_to_list (if_for view kept)
one_more view all i kept within is =
    ap (filter_map (if_for view)) (take_more all i kept within ∙ ap (λ (last : Option (Signed ViewChange)). take i all ++ last ∷ []) (sym is))
    ∙ filter_map-append (if_for view) (take i all) (kept ∷ []) ∙ ap (λ (more : List (Signed ViewChange)). filter_map (if_for view) (take i all) ++ more) (one_of view kept)

-- of how many there is one
pub count_is : (view : ℕ) (all : List (Option (Signed ViewChange))) → length (filter_map (if_for view) all) ≡ count_by (λ kept. is_some (if_for view kept)) all
count_is view [] = refl
count_is view (kept ∷ all) =
    go (if_for view kept) ∙ ap (λ n. cond (is_some (if_for view kept)) 1 0 + n) (count_is view all) ∙ sym (sum_by-cons (λ kept. cond (is_some (if_for view kept)) 1 0) kept all)
  where
    go : (found : Option (Signed ViewChange)) → length (cons_option found (filter_map (if_for view) all)) ≡ cond (is_some found) 1 0 + length (filter_map (if_for view) all)
    go None = omega arith
    go (Some s) = omega arith

-- what stood at a place is put back
pub put_again : {X : Type 0} (items : List X) (place : ℕ) (item there : X) → (d : X) → there ≡ get_or items place d → slice_set (slice_set items place item) place there ≡ items
put_again items place item there d is =
    set-set items place item there ∙ ap (slice_set items place) is ∙ set-get_or items place d

-- what is kept is near ---------------------------------------------------------------------------------------------------------

pub near_for : (view : ℕ) (all : List (Option (Signed ViewChange))) → All IsNearIfKept all → AreNear (filter_map (if_for view) all)
near_for view [] near = All-nil (λ s. IsNear s.message)
near_for view (None ∷ all) near = near_for view all (All-tail IsNearIfKept None all near)
near_for view (Some s ∷ all) near = go (s.message.view == view) (near_for view all (All-tail IsNearIfKept (Some s) all near))
  where
    go : (is : Bool) → AreNear (filter_map (if_for view) all) → AreNear (cons_option (cond is (Some s) None) (filter_map (if_for view) all))
    go true rest = All-cons (λ s. IsNear s.message) s (filter_map (if_for view) all) (All-head IsNearIfKept (Some s) all near) rest
    go false rest = rest

pub few_for : (view : ℕ) (all : List (Option (Signed ViewChange))) → length (filter_map (if_for view) all) ≤ length all
few_for view [] = omega arith
few_for view (kept ∷ all) = go (if_for view kept) (few_for view all)
  where
    go : (found : Option (Signed ViewChange)) → length (filter_map (if_for view) all) ≤ length all → length (cons_option found (filter_map (if_for view) all)) ≤ length (kept ∷ all)
    go None few = omega (arith, few)
    go (Some s) few = omega (arith, few)

above_near : (view : ℕ) (kept : Option (Signed ViewChange)) → IsNearIfKept kept → IsNearIfKept (if_above view kept)
above_near view None near = tt
above_near view (Some s) near = go (nat_lt view s.message.view)
  where
    go : (is : Bool) → IsNearIfKept (cond is (Some s) None)
    go true = near
    go false = tt

pub above_few : (view : ℕ) (kept : Kept) → AreFew kept → AreFew (above_view view kept)
above_few view kept are = record {
  few = subst (λ n. n ≤ most_replicas) (sym (length-map kept.changes (if_above view))) are.few;
  near = All-map IsNearIfKept (if_above view) kept.changes (λ k d within. above_near view (get_or kept.changes k d) (are.near k d within));
}
