-- What a replica signs passes by its own keys, in the views and of the numbers that its key has.
use Rattle.std.proofs.Common.{◌≡◌, ◌<◌, ◌≤◌, ◌+◌, ◌-◌, ◌*◌, ◌^◌, ◌&&◌, ℕ, true, List, Some, None, sym, subst, ◌∙◌, arith}
use Rattle.std.specs.Prelude.{min, nat_lt, slice_get}
use Rattle.std.proofs.Math.Nat.{add-mul, mul-le-mul_right, one-mul}
use Rattle.std.proofs.lemmas.Bool.{and_from, cond-true, lt-ltb}
use Rattle.std.proofs.lemmas.Nat.{pow_pos}
use Rattle.lms.specs.Levels.{hss_public_key_bytes}
use Rattle.lms.specs.Signers.{HssKey, count_below, hss_public_key, index_count}
use Rattle.lms.specs.Types.{leaf_count}
use Rattle.bfs_auth.specs.Authenticators.{passes, signature}
use Rattle.bfs_auth.specs.Laws.{IndexIsOfTheKey, SignedPasses, SignedWhereNotSpent}
use Rattle.bfs_auth.specs.Places.{index_at, index_below, index_in_view, index_of, view_count}
use Rattle.bfs_auth.specs.Signatures.{signature_alone}
use Rattle.bfs_auth.specs.declared.authenticators.Authenticator.{Authenticator}
use Rattle.bfs_auth.specs.declared.authenticators.Authenticator.TheVariants.{Signature}
use Rattle.bfs_auth.specs.declared.places.Place.{Place}
use Rattle.bfs_auth.specs.declared.places.Place.TheVariants.{Vote, Checkpoint, ViewChange, NewView}
use Rattle.bfs_auth.specs.declared.principals.Principal.TheVariants.{Replica}
use Rattle.bfs_passing.specs.Keys.{IsInTime}
use Rattle.bfs_passing.specs.Laws.{SignedInTimePasses}

-- Indexes -------------------------------------------------------------------------------------------------------------

at_leaf : (count leaves leaf number : ℕ) → leaf < leaves → leaves * count ≤ 2 ^ 64 → number < count → index_at count leaf number ≡ Some (leaf * count + number)
at_leaf count leaves leaf number there all few =
    let more : leaf + 1 ≤ leaves = omega (arith, there) in
    let within : leaf * count + number < 2 ^ 64 = omega (arith, all, few, add-mul leaf 1 count, one-mul count, mul-le-mul_right count more) in
    cond-true (nat_lt number count && nat_lt (leaf * count + number) (2 ^ 64)) (Some (leaf * count + number)) None
    (and_from (nat_lt number count) (nat_lt (leaf * count + number) (2 ^ 64)) (lt-ltb number count few) (lt-ltb (leaf * count + number) (2 ^ 64) within))

below_least : (a b n : ℕ) → n < min a b → n < b
below_least a b n below = omega (arith, below)

number_below : (a c n : ℕ) → n < min a (c - 2) → n + 2 < c
number_below a c n below = omega (arith, below)

not_last : (leaves v : ℕ) → v < leaves - 1 → v < leaves
not_last leaves v below = omega (arith, below)

last_below : (leaves : ℕ) → 0 < leaves → leaves - 1 < leaves
last_below leaves some = omega (arith, some)

two_more : (n c : ℕ) → n + 2 < c → n < c
two_more n c below = omega (arith, below)

module _ (key : HssKey) (all : index_count key ≤ 2 ^ 64) where
  in_view : (view number : ℕ) → view < min (2 ^ 63) (view_count key) → number < count_below key.below → index_in_view key view number ≡ Some (view * count_below key.below + number)
  in_view view number there few =
      let below = below_least (2 ^ 63) (view_count key) view there in
      cond-true (nat_lt view (view_count key)) (index_below key view number) None (lt-ltb view (view_count key) below)
      ∙ at_leaf (count_below key.below) (leaf_count key.first.lms) view number (not_last (leaf_count key.first.lms) view below) all few

  index_there : 2 ≤ count_below key.below → (place : Place) → IsInTime key place → (index : ℕ) × (index_of key place ≡ Some index)
  unfolding index_of
  index_there two (Vote view number) there =
      (view * count_below key.below + (number + 2), in_view view (number + 2) there.0 (number_below (2 ^ 63) (count_below key.below) number there.1))
  index_there two (Checkpoint number) there =
      let few = two_more number (count_below key.below) (number_below (2 ^ 63) (count_below key.below) number there) in
      (view_count key * count_below key.below + number, at_leaf (count_below key.below) (leaf_count key.first.lms) (view_count key) number (last_below (leaf_count key.first.lms) (pow_pos _)) all few)
  index_there two (ViewChange view) there = (view * count_below key.below + 0, in_view view 0 there (some_below (count_below key.below) two))
    where
      some_below : (c : ℕ) → 2 ≤ c → 0 < c
      some_below c le = omega (arith, le)
  index_there two (NewView view) there = (view * count_below key.below + 1, in_view view 1 there two)

pub signed_in_time_passes : SignedWhereNotSpent → SignedPasses → IndexIsOfTheKey → SignedInTimePasses
signed_in_time_passes signs passing within f keys know i key text place below has is there =
    let found = index_there key has.indexes has.numbers place there in
    let index = found.0 in
    let bytes = signature_alone key index text in
    let made : signature (keys i) text ≡ Signature bytes = signs (keys i) key place index text has.signer is found.1 (has.short index text (within key place index found.1).0) in
    let known : slice_get (keys i).replica_signers i ≡ Some (hss_public_key_bytes (hss_public_key key)) =
    subst (λ (all : List (List ℕ)). slice_get all i ≡ Some (hss_public_key_bytes (hss_public_key key))) (sym (know.knows_replicas i below)) has.known in
    subst (λ (auth : Authenticator). passes (keys i) (Replica i) text auth ≡ true) (sym made) (passing (keys i) (keys i) key i text bytes has.id has.levels has.signer known made)
