-- What is signed by several levels passes.
use Rattle.std.proofs.Common.{◌≡◌, ◌<◌, ◌+◌, ◌*◌, ◌/◌, ◌%◌, ℕ, suc, true, List, [], ◌∷◌, ◌++◌, length, take, drop, Option, Some, None, refl, sym, ap, ◌∙◌, append_assoc, arith, length-append}
use Rattle.std.specs.Prelude.{◌==◌, ◌&&◌, nat_le, nat_lt, option_map}
use Rattle.std.proofs.lemmas.Bool.{and_from, cond-true, eq-eqb, le-leb, lt-ltb}
use Rattle.std.proofs.lemmas.List.{drop-drop, drop_at, length-take-le, take_at}
use Rattle.std.proofs.lemmas.Nat.{div_below, from_be_bytes-to_be_bytes_4, mod_below, pow_pos}
use Rattle.sha2.proofs.Facts256.{length-sha256}
use Rattle.lms.specs.declared.types.TreeTypes.{TreeTypes}
use Rattle.lms.specs.declared.public_key.PublicKey.{PublicKey}
use Rattle.lms.specs.declared.private_key.PrivateKey.{PrivateKey}
use Rattle.lms.specs.declared.hss.HssPublicKey.{HssPublicKey}
use Rattle.lms.specs.Types.{height, leaf_count}
use Rattle.lms.specs.Bytes.{word_at}
use Rattle.lms.specs.Chains.{front}
use Rattle.lms.specs.Keys.{public_key_bytes, public_key_in, signature_length}
use Rattle.lms.specs.Verifying.{is_signed}
use Rattle.lms.specs.Levels.{behind_key, first_signature, hss_is_signed, hss_is_signed_by, hss_public_key_bytes, hss_public_key_in, is_signed_over, most_levels, next_key}
use Rattle.lms.specs.Secrets.{node, public_key, secret, signature_of}
use Rattle.lms.specs.Signers.{HssKey, child_key, count_below, hss_public_key, hss_signature_of, id_kind, index_count, signed_from, signed_key}
use Rattle.lms.specs.Laws.{HssSignedVerifies}
use Rattle.lms.proofs.Nested.{last_over, over_step}
use Rattle.lms.proofs.Signed.{node_long, signature_long, signed_by}
use Rattle.lms.proofs.Standing.{public_key_read}
use Rattle.lms.proofs.Ways.{count_cons}

from_last : (key : PrivateKey) (index : ℕ) (text : List ℕ) → signed_from key [] index text ≡ signature_of key index text
unfolding signed_from
from_last key index text = refl

from_more : (key : PrivateKey) (types : TreeTypes) (below : List TreeTypes) (index : ℕ) (text : List ℕ)
    → signed_from key (types ∷ below) index text ≡ signed_key key (index / count_below (types ∷ below)) (child_key key types (index / count_below (types ∷ below)))
    ++ signed_from (child_key key types (index / count_below (types ∷ below))) below (index % count_below (types ∷ below)) text
unfolding signed_from
from_more key types below index text = refl

child_id_long : (key : PrivateKey) (types : TreeTypes) (leaf : ℕ) → length (child_key key types leaf).id ≡ 16
child_id_long key types leaf = length-take-le 16 (secret key leaf id_kind) (omega (arith, length-sha256 (front key.id leaf id_kind ++ 255 ∷ key.seed)))

-- the public key of the tree below a leaf, behind the leaf's signature of it, and what stands behind both
one_level : (n : ℕ) (key child : PrivateKey) (leaf : ℕ) (text rest : List ℕ) → leaf < leaf_count key.lms → length child.id ≡ 16
    → is_signed_over (suc n) (Some (public_key key)) text (signed_key key leaf child ++ rest) ≡ is_signed_over n (Some (public_key child)) text rest
one_level n key child leaf text rest fits long =
    let top = public_key key in
    let signed = public_key_bytes (public_key child) in
    let signature = signature_of key leaf signed in
    let bytes = signed_key key leaf child ++ rest in
    let count = signature_length key.lms key.ots in
    let told : length signature ≡ count = signature_long key leaf signed fits in
    let key_told : length signed ≡ 56 = omega (arith, length-append child.id (node child (height child.lms) 1), long, node_long child (height child.lms) 1) in
    let split : bytes ≡ signature ++ (signed ++ rest) = append_assoc signature signed rest in
    let first : first_signature top bytes ≡ signature = ap (take count) split ∙ take_at signature (signed ++ rest) count told in
    let behind : drop count bytes ≡ signed ++ rest = ap (drop count) split ∙ drop_at signature (signed ++ rest) count told in
    let next : next_key top bytes ≡ signed = ap (take 56) behind ∙ take_at signed rest 56 key_told in
    let left : behind_key top bytes ≡ rest = sym (drop-drop 56 count bytes) ∙ ap (drop 56) behind ∙ drop_at signed rest 56 key_told in
    let passes : is_signed top (next_key top bytes) (first_signature top bytes) ≡ true =
    ap (λ (l : List ℕ). is_signed top l (first_signature top bytes)) next ∙ ap (is_signed top signed) first ∙ signed_by key leaf signed fits in
    let found : public_key_in (next_key top bytes) ≡ Some (public_key child) =
    ap public_key_in next ∙ public_key_read (public_key child) long (node_long child (height child.lms) 1) in
    over_step n top (public_key child) text bytes passes found ∙ ap (is_signed_over n (Some (public_key child)) text) left

pub levels_pass : (key : PrivateKey) (below : List TreeTypes) (index : ℕ) (text : List ℕ) → index < leaf_count key.lms * count_below below
    → is_signed_over (length below) (Some (public_key key)) text (signed_from key below index text) ≡ true
levels_pass key [] index text fits =
    ap (is_signed_over 0 (Some (public_key key)) text) (from_last key index text) ∙ last_over (public_key key) text (signature_of key index text)
    ∙ signed_by key index text (omega (arith, fits))
levels_pass key (types ∷ below) index text fits =
    let count = count_below (types ∷ below) in
    let leaf = index / count in
    let child = child_key key types leaf in
    let some : 0 < count = pow_pos _ in
    let within : leaf < leaf_count key.lms = div_below index count (leaf_count key.lms) some fits in
    ap (is_signed_over (suc (length below)) (Some (public_key key)) text) (from_more key types below index text)
    ∙ one_level (length below) key child leaf text (signed_from child below (index % count) text) within (child_id_long key types leaf)
    ∙ levels_pass child below (index % count) text (omega (arith, mod_below index count some, count_cons types below))

-- Keys of several levels -----------------------------------------------------------------------------------------------------

abbrev levels_then : (levels : ℕ) → Option PublicKey → Option HssPublicKey
levels_then levels found = option_map (λ key. record { levels = levels; key = key }) found

hss_key_read : (key : HssKey) → length key.first.id ≡ 16 → length key.below < most_levels → hss_public_key_in (hss_public_key_bytes (hss_public_key key)) ≡ Some (hss_public_key key)
hss_key_read key long few =
    let bytes = hss_public_key_bytes (hss_public_key key) in
    let levels = length key.below + 1 in
    let told : word_at 0 bytes ≡ levels = from_be_bytes-to_be_bytes_4 levels (omega (arith, few)) in
    let fits = and_from (nat_le 4 (length bytes) && nat_lt 0 (word_at 0 bytes)) (nat_le (word_at 0 bytes) most_levels)
    (and_from (nat_le 4 (length bytes)) (nat_lt 0 (word_at 0 bytes)) (le-leb 4 (length bytes) (omega arith)) (lt-ltb 0 (word_at 0 bytes) (omega (arith, told))))
    (le-leb (word_at 0 bytes) most_levels (omega (arith, told, few))) in
    cond-true (nat_le 4 (length bytes) && nat_lt 0 (word_at 0 bytes) && nat_le (word_at 0 bytes) most_levels) (levels_then (word_at 0 bytes) (public_key_in (drop 4 bytes))) None fits
    ∙ ap (λ n. levels_then n (public_key_in (drop 4 bytes))) told
    ∙ ap (levels_then levels) (public_key_read (public_key key.first) long (node_long key.first (height key.first.lms) 1))

passes : (key : HssKey) (index : ℕ) (text : List ℕ) → length key.below < most_levels → index < index_count key
    → hss_is_signed (hss_public_key key) text (hss_signature_of key index text) ≡ true
unfolding hss_is_signed
passes key index text few fits =
    let signature = hss_signature_of key index text in
    let told : word_at 0 signature ≡ length key.below = from_be_bytes-to_be_bytes_4 (length key.below) (omega (arith, few)) in
    and_from (nat_le 4 (length signature) && nat_lt (word_at 0 signature) most_levels && (word_at 0 signature + 1 == length key.below + 1))
    (is_signed_over (word_at 0 signature) (Some (public_key key.first)) text (drop 4 signature))
    (and_from (nat_le 4 (length signature) && nat_lt (word_at 0 signature) most_levels) (word_at 0 signature + 1 == length key.below + 1)
    (and_from (nat_le 4 (length signature)) (nat_lt (word_at 0 signature) most_levels) (le-leb 4 (length signature) (omega arith)) (lt-ltb (word_at 0 signature) most_levels (omega (arith, told, few))))
    (eq-eqb (word_at 0 signature + 1) (length key.below + 1) (omega (arith, told))))
    (ap (λ n. is_signed_over n (Some (public_key key.first)) text (drop 4 signature)) told ∙ levels_pass key.first key.below index text fits)

pub hss_signed_verifies : HssSignedVerifies
hss_signed_verifies key index text long few fits =
    ap (λ k. hss_is_signed_by k text (hss_signature_of key index text)) (hss_key_read key long few) ∙ passes key index text few fits
