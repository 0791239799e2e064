-- The way from the first tree of a key of several levels to the last.
use Rattle.std.proofs.Common.{◌≡◌, ◌<◌, ◌≤◌, ◌+◌, ◌*◌, ◌/◌, ◌%◌, ◌^◌, ℕ, suc, Bool, true, List, [], ◌∷◌, ◌++◌, length, take, Some, get_or, refl, sym, ap, ◌∙◌, arith, rules, append_assoc, length-append}
use Rattle.std.specs.Bool.{Decides}
use Rattle.std.specs.List.{flat_map}
use Rattle.std.specs.Prelude.{◌==◌, ◌&&◌, bytes_eq, option_map, sum_by}
use Rattle.std.proofs.lemmas.Bool.{and_from, and_parts, eqb-true}
use Rattle.std.proofs.lemmas.List.{get_or-take, get_or_push, length-take, length-take-le}
use Rattle.std.proofs.lemmas.List.Sums.{sum_by-cons}
use Rattle.std.proofs.Math.Nat.{div-eq_of_lt, div-lt_iff_lt-mul, mod-eq_of_lt}
use Rattle.std.proofs.lemmas.Nat.{div_below, mod_below, pow-add, pow_pos}
use Rattle.std.proofs.lemmas.Option.{slice_get_read}
use Rattle.std.proofs.lemmas.Slice.Eq.{bytes_eq-Decides}
use denote.Enum.Bare.{same_true, sameb, true_same}
use Rattle.lms.specs.contracts.types.LmsType.{the_type as lms_types}
use Rattle.lms.specs.contracts.types.OtsType.{the_type as ots_types}
use Rattle.lms.specs.declared.types.TreeTypes.{TreeTypes}
use Rattle.lms.specs.declared.private_key.PrivateKey.{PrivateKey}
use Rattle.lms.specs.declared.place.Place.{Place}
use Rattle.lms.specs.Types.{height, leaf_count}
use Rattle.lms.specs.Signers.{child_key, child_of, count_below, head_of, key_at, last_key, last_leaf, places_of, signed_from, signed_key}
use Rattle.lms.specs.Secrets.{signature_of}

-- Places that are the same ------------------------------------------------------------------------------------------------

abbrev is_key : (a b : PrivateKey) → Bool
is_key a b = sameb lms_types a.lms b.lms && (sameb ots_types a.ots b.ots && (bytes_eq a.id b.id && bytes_eq a.seed b.seed))

same_key : (a b : PrivateKey) → is_key a b ≡ true → a ≡ b
same_key a b e =
    let first = and_parts (sameb lms_types a.lms b.lms) (sameb ots_types a.ots b.ots && (bytes_eq a.id b.id && bytes_eq a.seed b.seed)) e in
    let second = and_parts (sameb ots_types a.ots b.ots) (bytes_eq a.id b.id && bytes_eq a.seed b.seed) first.1 in
    let third = and_parts (bytes_eq a.id b.id) (bytes_eq a.seed b.seed) second.1 in
    let lms : a.lms ≡ b.lms = same_true lms_types (search rules) _ _ first.0 in
    let ots : a.ots ≡ b.ots = same_true ots_types (search rules) _ _ second.0 in
    let id : a.id ≡ b.id = (bytes_eq-Decides a.id b.id).0 third.0 in
    let seed : a.seed ≡ b.seed = (bytes_eq-Decides a.seed b.seed).0 third.1 in
    λ i. record { lms = lms i; ots = ots i; id = id i; seed = seed i }

same_types : (a b : TreeTypes) → (sameb lms_types a.lms b.lms && sameb ots_types a.ots b.ots) ≡ true → a ≡ b
same_types a b e =
    let parts = and_parts (sameb lms_types a.lms b.lms) (sameb ots_types a.ots b.ots) e in
    let lms : a.lms ≡ b.lms = same_true lms_types (search rules) _ _ parts.0 in
    let ots : a.ots ≡ b.ots = same_true ots_types (search rules) _ _ parts.1 in
    λ i. record { lms = lms i; ots = ots i }

pub same_place : (a b : Place)
    → (is_key a.parent b.parent && ((sameb lms_types a.types.lms b.types.lms && sameb ots_types a.types.ots b.types.ots) && (a.leaf == b.leaf))) ≡ true → a ≡ b
same_place a b e =
    let first = and_parts (is_key a.parent b.parent) ((sameb lms_types a.types.lms b.types.lms && sameb ots_types a.types.ots b.types.ots) && (a.leaf == b.leaf)) e in
    let second = and_parts (sameb lms_types a.types.lms b.types.lms && sameb ots_types a.types.ots b.types.ots) (a.leaf == b.leaf) first.1 in
    let parent = same_key a.parent b.parent first.0 in
    let types = same_types a.types b.types second.0 in
    let leaf = eqb-true a.leaf b.leaf second.1 in
    λ i. record { parent = parent i; types = types i; leaf = leaf i }

pub key_decides : (a b : PrivateKey) → Decides (is_key a b) (a ≡ b)
key_decides a b = (
  same_key a b,
  λ e. and_from (sameb lms_types a.lms b.lms) (sameb ots_types a.ots b.ots && (bytes_eq a.id b.id && bytes_eq a.seed b.seed))
      (true_same lms_types a.lms b.lms (ap (λ k. k.lms) e))
      (and_from (sameb ots_types a.ots b.ots) (bytes_eq a.id b.id && bytes_eq a.seed b.seed) (true_same ots_types a.ots b.ots (ap (λ k. k.ots) e))
      (and_from (bytes_eq a.id b.id) (bytes_eq a.seed b.seed) ((bytes_eq-Decides a.id b.id).1 (ap (λ k. k.id) e)) ((bytes_eq-Decides a.seed b.seed).1 (ap (λ k. k.seed) e)))),
)

pub types_decide : (a b : TreeTypes) → Decides (sameb lms_types a.lms b.lms && sameb ots_types a.ots b.ots) (a ≡ b)
types_decide a b = (
  same_types a b,
  λ e. and_from (sameb lms_types a.lms b.lms) (sameb ots_types a.ots b.ots) (true_same lms_types a.lms b.lms (ap (λ t. t.lms) e)) (true_same ots_types a.ots b.ots (ap (λ t. t.ots) e)),
)

-- One level down -----------------------------------------------------------------------------------------------------------

pub count_cons : (types : TreeTypes) (below : List TreeTypes) → count_below (types ∷ below) ≡ leaf_count types.lms * count_below below
count_cons types below =
    ap (λ k. 2 ^ k) (sum_by-cons (λ types. height types.lms) types below) ∙ pow-add 2 (height types.lms) (sum_by (λ types. height types.lms) below)

places_cons : (key : PrivateKey) (types : TreeTypes) (below : List TreeTypes) (index leaf left : ℕ) → leaf ≡ index / count_below (types ∷ below) → left ≡ index % count_below (types ∷ below)
    → places_of key (types ∷ below) index ≡ record { parent = key; types = types; leaf = leaf } ∷ places_of (child_key key types leaf) below left
unfolding places_of
places_cons key types below index leaf left e f =
    ap (λ n. record { parent = key; types = types; leaf = n } ∷ places_of (child_key key types n) below (index % count_below (types ∷ below))) (sym e)
    ∙ ap (λ n. record { parent = key; types = types; leaf = leaf } ∷ places_of (child_key key types leaf) below n) (sym f)

leaf_cons : (types : TreeTypes) (below : List TreeTypes) (index left : ℕ) → left ≡ index % count_below (types ∷ below)
    → last_leaf (types ∷ below) index ≡ last_leaf below left
unfolding last_leaf
leaf_cons types below index left f = ap (last_leaf below) (sym f)

last_cons : (key : PrivateKey) (types : TreeTypes) (below : List TreeTypes) (index leaf left : ℕ) → leaf ≡ index / count_below (types ∷ below) → left ≡ index % count_below (types ∷ below)
    → last_key key (types ∷ below) index ≡ last_key (child_key key types leaf) below left
unfolding last_key
last_cons key types below index leaf left e f =
    ap (λ n. last_key (child_key key types n) below (index % count_below (types ∷ below))) (sym e) ∙ ap (last_key (child_key key types leaf) below) (sym f)

quotient_of : (types : TreeTypes) (all below : List TreeTypes) (index leaf : ℕ) → all ≡ types ∷ below → leaf ≡ index / count_below all → leaf ≡ index / count_below (types ∷ below)
quotient_of types all below index leaf split e = e ∙ ap (λ (l : List TreeTypes). index / count_below l) split

remainder_of : (types : TreeTypes) (all below : List TreeTypes) (index left : ℕ) → all ≡ types ∷ below → left ≡ index % count_below all → left ≡ index % count_below (types ∷ below)
remainder_of types all below index left split f = f ∙ ap (λ (l : List TreeTypes). index % count_below l) split

pub places_down : (key : PrivateKey) (types : TreeTypes) (all below : List TreeTypes) (index leaf left : ℕ) → all ≡ types ∷ below
    → leaf ≡ index / count_below all → left ≡ index % count_below all
    → places_of key all index ≡ record { parent = key; types = types; leaf = leaf } ∷ places_of (child_key key types leaf) below left
places_down key types all below index leaf left split e f =
    ap (λ (l : List TreeTypes). places_of key l index) split
    ∙ places_cons key types below index leaf left (quotient_of types all below index leaf split e) (remainder_of types all below index left split f)

pub leaf_down : (types : TreeTypes) (all below : List TreeTypes) (index left : ℕ) → all ≡ types ∷ below → left ≡ index % count_below all
    → last_leaf all index ≡ last_leaf below left
leaf_down types all below index left split f =
    ap (λ (l : List TreeTypes). last_leaf l index) split ∙ leaf_cons types below index left (remainder_of types all below index left split f)

pub last_down : (key : PrivateKey) (types : TreeTypes) (all below : List TreeTypes) (index leaf left : ℕ) → all ≡ types ∷ below
    → leaf ≡ index / count_below all → left ≡ index % count_below all
    → last_key key all index ≡ last_key (child_key key types leaf) below left
last_down key types all below index leaf left split e f =
    ap (λ (l : List TreeTypes). last_key key l index) split
    ∙ last_cons key types below index leaf left (quotient_of types all below index leaf split e) (remainder_of types all below index left split f)

-- what is left is an index below the leaf
pub left_below : (types : TreeTypes) (all below : List TreeTypes) (index left : ℕ) → all ≡ types ∷ below → left ≡ index % count_below all
    → left < leaf_count types.lms * count_below below
left_below types all below index left split f =
    omega (arith, remainder_of types all below index left split f, mod_below index (count_below (types ∷ below)) (pow_pos _), count_cons types below)

-- the leaf is one of the tree
pub leaf_within : (leaves : ℕ) (below : List TreeTypes) (index leaf : ℕ) → index < leaves * count_below below → leaf ≡ index / count_below below → leaf < leaves
leaf_within leaves below index leaf fits e = omega (arith, e, div_below index (count_below below) leaves (pow_pos _) fits)

-- the index is one of the key
pub within_leaf : (leaves : ℕ) (below : List TreeTypes) (index leaf : ℕ) → leaf < leaves → leaf ≡ index / count_below below → index < leaves * count_below below
within_leaf leaves below index leaf fits e = (div-lt_iff_lt-mul (pow_pos _)).0 (omega (arith, fits, e))

-- more texts are signed below than there are indexes
pub no_quotient : (below : List TreeTypes) (index : ℕ) → index < 2 ^ 64 → 2 ^ 64 ≤ count_below below → index / count_below below ≡ 0
no_quotient below index fits many = div-eq_of_lt (omega (arith, fits, many))

pub all_left : (below : List TreeTypes) (index : ℕ) → index < 2 ^ 64 → 2 ^ 64 ≤ count_below below → index % count_below below ≡ index
all_left below index fits many = mod-eq_of_lt (omega (arith, fits, many))

-- The last level -----------------------------------------------------------------------------------------------------------

pub no_places : (key : PrivateKey) (index : ℕ) → places_of key [] index ≡ []
unfolding places_of
no_places key index = refl

pub no_leaf_below : (index : ℕ) → last_leaf [] index ≡ index
unfolding last_leaf
no_leaf_below index = refl

pub no_key_below : (key : PrivateKey) (index : ℕ) → last_key key [] index ≡ key
unfolding last_key
no_key_below key index = refl

-- The place that was put behind others -------------------------------------------------------------------------------------

pub one_longer : (links old : List Place) (level : ℕ) (place : Place) → level ≤ length old → take (level + 1) links ≡ take level old ++ place ∷ [] → level + 1 ≤ length links
one_longer links old level place within e =
    omega (arith, ap length e, length-take (level + 1) links, length-take-le level old within, length-append (take level old) (place ∷ []))

pub key_below : (first : PrivateKey) (links old : List Place) (level : ℕ) (place : Place) → level ≤ length old → take (level + 1) links ≡ take level old ++ place ∷ []
    → key_at first links (level + 1) ≡ Some (child_of place)
key_below first links old level place within e =
    let longer = one_longer links old level place within e in
    let next : level + 1 ≡ suc level = omega arith in
    let at : get_or links level place ≡ place =
    sym (get_or-take (level + 1) links level place (omega arith)) ∙ ap (λ (l : List Place). get_or l level place) e
    ∙ get_or_push (take level old) place place level (length-take-le level old within) in
    ap (key_at first links) next ∙ ap (option_map child_of) (slice_get_read links (length links) level place refl (omega (arith, longer)) (sym at))

-- What is signed ------------------------------------------------------------------------------------------------------------

pub places_long : (key : PrivateKey) (below : List TreeTypes) (index : ℕ) → length (places_of key below index) ≡ length below
unfolding places_of
places_long key [] index = refl
places_long key (types ∷ below) index =
    let rest = places_long (child_key key types (index / count_below (types ∷ below))) below (index % count_below (types ∷ below)) in
    ap suc rest

pub signed_by_places : (key : PrivateKey) (below : List TreeTypes) (index : ℕ) (text : List ℕ)
    → signed_from key below index text ≡ flat_map head_of (places_of key below index) ++ signature_of (last_key key below index) (last_leaf below index) text
unfolding signed_from places_of last_key last_leaf
signed_by_places key [] index text = refl
signed_by_places key (types ∷ below) index text =
    let count = count_below (types ∷ below) in
    let child = child_key key types (index / count) in
    let head = signed_key key (index / count) child in
    let rest = index % count in
    ap (λ (l : List ℕ). head ++ l) (signed_by_places child below rest text)
    ∙ sym (append_assoc head (flat_map head_of (places_of child below rest)) (signature_of (last_key child below rest) (last_leaf below rest) text))

pub put_in_order : (key : PrivateKey) (below : List TreeTypes) (index : ℕ) (text front signed last : List ℕ) (links : List Place) (tree : PrivateKey) (leaf : ℕ)
    → links ≡ places_of key below index → Some tree ≡ Some (last_key key below index) → leaf ≡ last_leaf below index
    → signed ≡ front ++ flat_map head_of links → last ≡ signed ++ signature_of tree leaf text → last ≡ front ++ signed_from key below index text
put_in_order key below index text front signed last links tree leaf placed is at e f =
    let same : tree ≡ last_key key below index = cc in
    f ∙ ap (λ (l : List ℕ). l ++ signature_of tree leaf text) (e ∙ ap (λ (p : List Place). front ++ flat_map head_of p) placed)
    ∙ ap (λ (k : PrivateKey). (front ++ flat_map head_of (places_of key below index)) ++ signature_of k leaf text) same
    ∙ ap (λ n. (front ++ flat_map head_of (places_of key below index)) ++ signature_of (last_key key below index) n text) at
    ∙ append_assoc front (flat_map head_of (places_of key below index)) (signature_of (last_key key below index) (last_leaf below index) text)
    ∙ ap (λ (l : List ℕ). front ++ l) (sym (signed_by_places key below index text))
