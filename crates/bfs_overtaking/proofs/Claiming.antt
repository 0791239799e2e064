-- Claims in their order: which one is changed, and which stand before a place.
use Rattle.std.proofs.Common.{◌≡◌, ℕ, zero, suc, ◌<◌, ◌==◌, ◌&&◌, ◌||◌, Bool, true, false, true≢false, cond, List, [], ◌∷◌, Option, Some, None, is_some, slice_get, refl, ap, sym, ◌∙◌, arith}
use Rattle.std.specs.BTreeMap.{is_at}
use Rattle.std.specs.BTreeMap.Range.{IsInRange}
use Rattle.std.specs.BTreeSet.{BTreeSet, IsKeyRangeOf, contains, Updates}
use Rattle.std.specs.Cmp.{nat_cmp_is}
use Rattle.std.specs.Map.Iter.{TakesFirst}
use Rattle.std.specs.Ordering.{is_eq, is_gt, nat_cmp, ordering_then, MatchOrdering}
use Rattle.std.specs.declared.cmp.Ordering.{Ordering}
use Rattle.std.specs.declared.cmp.Ordering.TheVariants.{Less, Equal, Greater}
use Rattle.std.specs.declared.ops.Bound.TheVariants.{Included, Excluded}
use Rattle.std.proofs.lemmas.Bool.{or_left, or_right}
use Rattle.std.proofs.lemmas.Cmp.{nat_cmp_total, ranked, tied_itself}
use Rattle.bfs_overtaking.specs.Inside.Claims.{Sets, any_below, claim_cmp, is_before, is_claim}

is_eq_then : (o p : Ordering) → is_eq (ordering_then o p) ≡ (is_eq o && is_eq p)
is_eq_then Less p = refl
is_eq_then Equal p = refl
is_eq_then Greater p = refl

nat_same : (x y : ℕ) → is_eq (nat_cmp x y) ≡ (x == y)
nat_same x y = grind arith

same_claim : (claim : Option ℕ) (place : ℕ) (other : Option ℕ) (k : ℕ) → is_at (claim_cmp (claim, place)) (other, k) ≡ is_claim claim place other k
same_claim None place None k = nat_same place k
same_claim None place (Some y) k = refl
same_claim (Some x) place None k = refl
same_claim (Some x) place (Some y) k = is_eq_then (nat_cmp x y) (nat_cmp place k) ∙ (λ i. nat_same x y i && nat_same place k i)

pub changed : (s n : BTreeSet (Option ℕ × ℕ)) (claim : Option ℕ) (place : ℕ) (b : Bool) → Updates claim_cmp s n (claim, place) b → Sets b (is_claim claim place) s n
changed s n claim place b updates other k = updates.0 (other, k) ∙ ap (λ same. cond same b (contains claim_cmp s (other, k))) (same_claim claim place other k)

-- Before a place ---------------------------------------------------------------------------------------------------------------

less_is : (x y : ℕ) → nat_cmp x y ≡ Less → x < y
less_is x y is = ranked x y Less (sym is)

is_less : (x y : ℕ) → x < y → nat_cmp x y ≡ Less
is_less x y less = sym (nat_cmp_is x y Less less)

within : (claim : Option ℕ) (place : ℕ) (other : Option ℕ) (k : ℕ) → IsInRange claim_cmp (Included (claim, 0)) (Excluded (claim, place)) (other, k) → (other ≡ claim) × (k < place)
within None place None k is = (refl, less_is k place is.1)
within None place (Some y) k is = absurd (let no : ◌≡◌ {A = Ordering} Greater Less = is.1 in cc)
within (Some x) place None k is = absurd (true≢false is.0)
within (Some x) place (Some y) k is = go (nat_cmp x y) refl (ranked x y (nat_cmp x y) refl) is.0
  where
    go : (o : Ordering) → nat_cmp x y ≡ o → MatchOrdering o (x < y) (x ≡ y) (y < x) → is_gt (ordering_then o (nat_cmp 0 k)) ≡ false → (◌≡◌ {A = Option ℕ} (Some y) (Some x)) × (k < place)
    go Less by less from = absurd (let no : ◌≡◌ {A = Ordering} Greater Less = ap (λ p. ordering_then p (nat_cmp k place)) (nat_cmp_is y x Greater less) ∙ is.1 in cc)
    go Equal by same from = (ap Some (sym same), less_is k place (ap (λ p. ordering_then p (nat_cmp k place)) (nat_cmp_is y x Equal (sym same)) ∙ is.1))
    go Greater by more from = absurd (true≢false from)

not_less : (k : ℕ) → is_gt (nat_cmp 0 k) ≡ false
not_less k = grind arith

in_range : (claim : Option ℕ) (place k : ℕ) → k < place → IsInRange claim_cmp (Included (claim, 0)) (Excluded (claim, place)) (claim, k)
in_range None place k less = (not_less k, is_less k place less)
in_range (Some x) place k less =
    (ap (λ o. is_gt (ordering_then o (nat_cmp 0 k))) (tied_itself nat_cmp_total x) ∙ not_less k, ap (λ o. ordering_then o (nat_cmp k place)) (tied_itself nat_cmp_total x) ∙ is_less k place less)

any_there : (p : ℕ → Bool) (n k : ℕ) → k < n → p k ≡ true → any_below p n ≡ true
any_there p zero k less passes = absurd (omega arith)
any_there p (suc n) zero less passes = or_left (p 0) (any_below (λ j. p (suc j)) n) passes
any_there p (suc n) (suc k) less passes = or_right (p 0) (any_below (λ j. p (suc j)) n) (any_there (λ j. p (suc j)) n k (omega arith) passes)

none_there : (p : ℕ → Bool) (n : ℕ) → ((k : ℕ) → k < n → p k ≡ false) → any_below p n ≡ false
none_there p zero none = refl
none_there p (suc n) none = ap (λ b. b || any_below (λ j. p (suc j)) n) (none 0 (omega arith)) ∙ none_there (λ j. p (suc j)) n (λ k less. none (suc k) (omega arith))

range_tells : (s : BTreeSet (Option ℕ × ℕ)) (claim : Option ℕ) (place : ℕ) (range : List (Option ℕ × ℕ)) → IsKeyRangeOf claim_cmp (Included (claim, 0)) (Excluded (claim, place)) s range
    → is_some (slice_get range 0) ≡ is_before s claim place
range_tells s claim place [] is = sym (none_there (λ k. contains claim_cmp s (claim, k)) place (λ k less. is.5 refl (claim, k) (in_range claim place k less)))
range_tells s claim place ((other, k) ∷ range) is =
    let here = within claim place other k is.1.0 in
    sym (any_there (λ j. contains claim_cmp s (claim, j)) place k here.1 (ap (λ c. contains claim_cmp s (c, k)) (sym here.0) ∙ is.1.1))

pub first_tells : {A : Type 0} (shows : A → Option ℕ × ℕ) (s : BTreeSet (Option ℕ × ℕ)) (claim : Option ℕ) (place : ℕ) (range rest : List (Option ℕ × ℕ)) (first : Option A) → TakesFirst shows range first rest
    → IsKeyRangeOf claim_cmp (Included (claim, 0)) (Excluded (claim, place)) s range → is_some first ≡ is_before s claim place
first_tells shows s claim place range rest None takes is = ap (λ r. is_some (slice_get r 0)) (sym takes.0) ∙ range_tells s claim place range is
first_tells shows s claim place range rest (Some x) takes is = ap (λ r. is_some (slice_get r 0)) (sym takes) ∙ range_tells s claim place range is
