-- Which place an index is of.
use Rattle.std.proofs.Common.{◌≡◌, ◌<◌, ◌≤◌, ◌+◌, ◌-◌, ◌*◌, ◌/◌, ◌%◌, ◌^◌, ℕ, Bool, true, false, refl, sym, ap, ◌∙◌, arith}
use Rattle.std.specs.Prelude.{◌&&◌, Option, Some, None, nat_lt, if◌then◌else◌}
use Rattle.std.proofs.Math.Nat.{add-mul, mod-eq_of_lt, mul-add-mod_self_right, mul-le-mul_right, one-mul, zero-mul}
use Rattle.std.proofs.Math.Pow.{pow_mono}
use Rattle.std.proofs.lemmas.Bool.{and_from, and_parts, cond-false, cond-true, le-ltb, lt-ltb}
use Rattle.std.proofs.lemmas.Nat.{div-mul-add, pow_pos}
use borrow.Author.Tests.{ltb-true}
use Rattle.lms.specs.Signers.{HssKey, count_below, index_count}
use Rattle.lms.specs.Types.{leaf_count}
use Rattle.bfs_auth.specs.Places.{index_at, index_in_view, index_of, view_count}
use Rattle.bfs_auth.specs.Laws.{IndexIsOfOnePlace, IndexIsOfTheKey}
use Rattle.bfs_auth.specs.declared.places.Place.{Place}
use Rattle.bfs_auth.specs.declared.places.Place.TheVariants.{Vote, Checkpoint, ViewChange, NewView}

cond_some : (t : Bool) (o : Option ℕ) (i : ℕ) → (if t then o else None) ≡ Some i → (t ≡ true) × (o ≡ Some i)
cond_some true o i e = (refl, e)
cond_some false o i e = absurd (cc)

-- the index of a number below a leaf
record Below (count leaf number index : ℕ) : Type 0 where
  few : number < count
  at : index ≡ leaf * count + number
  within : index < 2 ^ 64

below_of : (count leaf number index : ℕ) → index_at count leaf number ≡ Some index → Below count leaf number index
below_of count leaf number index e =
    let found = cond_some (nat_lt number count && nat_lt (leaf * count + number) (2 ^ 64)) (Some (leaf * count + number)) index e in
    let parts = and_parts (nat_lt number count) (nat_lt (leaf * count + number) (2 ^ 64)) found.0 in
    let same : leaf * count + number ≡ index = some_same (leaf * count + number) index found.1 in
    record {
      few = ltb-true number count parts.0;
      at = sym same;
      within = omega (arith, same, ltb-true (leaf * count + number) (2 ^ 64) parts.1);
    }
  where
    some_same : (a b : ℕ) → Some a ≡ Some b → a ≡ b
    some_same a b same = cc

in_view : (key : HssKey) (view number index : ℕ) → index_in_view key view number ≡ Some index → (view < view_count key) × Below (count_below key.below) view number index
in_view key view number index e =
    let found = cond_some (nat_lt view (view_count key)) (index_at (count_below key.below) view number) index e in
    (ltb-true view (view_count key) found.0, below_of (count_below key.below) view number index found.1)

same_leaf : (count a n b m index : ℕ) → Below count a n index → Below count b m index → a ≡ b
same_leaf count a n b m index x y = sym (div-mul-add a count n x.few) ∙ ap (λ i. i / count) (sym x.at ∙ y.at) ∙ div-mul-add b count m y.few

same_number : (count a n b m index : ℕ) → Below count a n index → Below count b m index → n ≡ m
same_number count a n b m index x y =
    sym (mod-eq_of_lt x.few) ∙ sym (mul-add-mod_self_right a count n) ∙ ap (λ i. i % count) (sym x.at ∙ y.at) ∙ mul-add-mod_self_right b count m
    ∙ mod-eq_of_lt y.few

-- of views
same_view : (key : HssKey) (v n w m index : ℕ) → index_in_view key v n ≡ Some index → index_in_view key w m ≡ Some index → v ≡ w
same_view key v n w m index e f = same_leaf (count_below key.below) v n w m index (in_view key v n index e).1 (in_view key w m index f).1

same_below : (key : HssKey) (v n w m index : ℕ) → index_in_view key v n ≡ Some index → index_in_view key w m ≡ Some index → n ≡ m
same_below key v n w m index e f = same_number (count_below key.below) v n w m index (in_view key v n index e).1 (in_view key w m index f).1

-- the last leaf is of no view
no_view : (key : HssKey) (v n m index : ℕ) → index_in_view key v n ≡ Some index → index_at (count_below key.below) (view_count key) m ≡ Some index → ⊥
no_view key v n m index e f =
    let view = in_view key v n index e in
    omega (arith, view.0, same_leaf (count_below key.below) v n (view_count key) m index view.1 (below_of (count_below key.below) (view_count key) m index f))

pub one_place : IndexIsOfOnePlace
unfolding index_of
one_place key (Vote v n) (Vote w m) index e f =
    let view : v ≡ w = same_view key v (n + 2) w (m + 2) index e f in
    let number : n ≡ m = omega (arith, same_below key v (n + 2) w (m + 2) index e f) in
    λ i. Vote (view i) (number i)
one_place key (Vote v n) (ViewChange w) index e f = absurd (omega (arith, same_below key v (n + 2) w 0 index e f))
one_place key (Vote v n) (NewView w) index e f = absurd (omega (arith, same_below key v (n + 2) w 1 index e f))
one_place key (Vote v n) (Checkpoint m) index e f = absurd (no_view key v (n + 2) m index e f)
one_place key (ViewChange v) (Vote w m) index e f = absurd (omega (arith, same_below key v 0 w (m + 2) index e f))
one_place key (ViewChange v) (ViewChange w) index e f = ap ViewChange (same_view key v 0 w 0 index e f)
one_place key (ViewChange v) (NewView w) index e f = absurd (omega (arith, same_below key v 0 w 1 index e f))
one_place key (ViewChange v) (Checkpoint m) index e f = absurd (no_view key v 0 m index e f)
one_place key (NewView v) (Vote w m) index e f = absurd (omega (arith, same_below key v 1 w (m + 2) index e f))
one_place key (NewView v) (ViewChange w) index e f = absurd (omega (arith, same_below key v 1 w 0 index e f))
one_place key (NewView v) (NewView w) index e f = ap NewView (same_view key v 1 w 1 index e f)
one_place key (NewView v) (Checkpoint m) index e f = absurd (no_view key v 1 m index e f)
one_place key (Checkpoint n) (Vote w m) index e f = absurd (no_view key w (m + 2) n index f e)
one_place key (Checkpoint n) (ViewChange w) index e f = absurd (no_view key w 0 n index f e)
one_place key (Checkpoint n) (NewView w) index e f = absurd (no_view key w 1 n index f e)
one_place key (Checkpoint n) (Checkpoint m) index e f =
    let last = view_count key in
    let count = count_below key.below in
    let number : n ≡ m = same_number count last n last m index (below_of count last n index e) (below_of count last m index f) in
    ap Checkpoint number

-- an index below a leaf of the first tree is one of the key
below_all : (key : HssKey) (leaf number index : ℕ) → leaf ≤ view_count key → Below (count_below key.below) leaf number index → index < index_count key
below_all key leaf number index last x =
    let count = count_below key.below in
    let leaves = leaf_count key.first.lms in
    let some : 0 < leaves = pow_pos _ in
    let more : leaf + 1 ≤ leaves = omega (arith, some, last) in
    omega (arith, x.at, x.few, add-mul leaf 1 count, mul-le-mul_right count more)

of_view : (key : HssKey) (view number index : ℕ) → index_in_view key view number ≡ Some index → (index < index_count key) × (index < 2 ^ 64)
of_view key view number index e =
    let found = in_view key view number index e in
    (below_all key view number index (omega (arith, found.0)) found.1, found.1.within)

pub of_the_key : IndexIsOfTheKey
unfolding index_of
of_the_key key (Vote view number) index e = of_view key view (number + 2) index e
of_the_key key (ViewChange view) index e = of_view key view 0 index e
of_the_key key (NewView view) index e = of_view key view 1 index e
of_the_key key (Checkpoint number) index e =
    let found = below_of (count_below key.below) (view_count key) number index e in
    (below_all key (view_count key) number index (omega arith) found, found.within)

pub index_within : (key : HssKey) (place : Place) (index : ℕ) → index_of key place ≡ Some index → index < index_count key
index_within key place index e = (of_the_key key place index e).0

-- Where more are below a leaf than there are indexes --------------------------------------------------------------------------

pub first_leaf : (height leaf number : ℕ) → 64 ≤ height → leaf ≡ 0 → number < 2 ^ 64 → Some number ≡ index_at (2 ^ height) leaf number
first_leaf height leaf number high first small =
    let count = 2 ^ height in
    let many : 2 ^ 64 ≤ count = pow_mono high in
    let none : leaf * count ≡ 0 = ap (λ l. l * count) first ∙ zero-mul count in
    let e : leaf * count + number ≡ number = omega (arith, none) in
    let fits = and_from (nat_lt number count) (nat_lt (leaf * count + number) (2 ^ 64)) (lt-ltb number count (omega (arith, many, small))) (lt-ltb (leaf * count + number) (2 ^ 64) (omega (arith, e, small))) in
    sym (cond-true (nat_lt number count && nat_lt (leaf * count + number) (2 ^ 64)) (Some (leaf * count + number)) None fits ∙ ap (λ n. Some n) e)

and_false : (b : Bool) → (b && false) ≡ false
and_false true = refl
and_false false = refl

pub other_leaf : (height leaf number : ℕ) → 64 ≤ height → 0 < leaf → None ≡ index_at (2 ^ height) leaf number
other_leaf height leaf number high more =
    let count = 2 ^ height in
    let many : 2 ^ 64 ≤ count = pow_mono high in
    let one : 1 ≤ leaf = omega arith in
    let large : 2 ^ 64 ≤ leaf * count + number = omega (arith, many, mul-le-mul_right count one, one-mul count) in
    let late = le-ltb (leaf * count + number) (2 ^ 64) large in
    sym (cond-false (nat_lt number count && nat_lt (leaf * count + number) (2 ^ 64)) (Some (leaf * count + number)) None
    (ap (λ b. nat_lt number count && b) late ∙ and_false (nat_lt number count)))
