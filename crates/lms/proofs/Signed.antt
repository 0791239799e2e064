-- What is signed passes.
use Rattle.std.proofs.Common.{◌≡◌, ◌≤◌, ◌<◌, ◌+◌, ◌-◌, ◌*◌, ◌/◌, ◌%◌, ◌^◌, inl, inr, ℕ, zero, suc, List, ◌++◌, length, true, refl, sym, ap, ◌∙◌, arith, length-append}
use Rattle.std.specs.Prelude.{◌==◌, bytes_eq, nat_lt}
use Rattle.std.specs.Int.{to_be_bytes, w32}
use Rattle.std.proofs.lemmas.Bool.{and_from, cases_Bool, cond-false, cond-true, eq-eqb, eqb-false, eqb-true, lt-ltb}
use Rattle.std.proofs.lemmas.Nat.{div-mul-add, shr-shr}
use Rattle.std.proofs.lemmas.Slice.Eq.{bytes_eq-Decides}
use Rattle.sha2.specs.Sha256.{sha256}
use Rattle.sha2.proofs.Facts256.{length-sha256}
use Rattle.lms.specs.declared.private_key.PrivateKey.{PrivateKey}
use Rattle.lms.specs.Types.{chain_count, height, last_step, leaf_count, lms_code, ots_code}
use Rattle.lms.specs.Digits.{cut, with_checksum}
use Rattle.lms.specs.Bytes.{hash_at, word_at}
use Rattle.lms.specs.Chains.{front, joined, one_time_key_kind, step, steps}
use Rattle.lms.specs.OneTime.{end_from, key_candidate, text_hash}
use Rattle.lms.specs.Trees.{climbed, inner_node, leaf_node, node_above}
use Rattle.lms.specs.Keys.{is_formed, leaf_in, path_in, path_place, randomizer_in, signature_length, values_in}
use Rattle.lms.specs.Verifying.{is_signed, is_signed_by, root_candidate}
use Rattle.lms.specs.Secrets.{beside, end_of, node, one_time_key, public_key, randomizer, secret, sibling, signature_of, signed_hash, signed_value, value_after}
use Rattle.lms.specs.Laws.{SignedVerifies}
use Rattle.lms.proofs.DigitSums.{digit_le}
use Rattle.lms.proofs.Kept.{leaves_fit, node_inner}
use Rattle.lms.proofs.Paths.{even_sibling, odd_sibling}
use Rattle.lms.proofs.Standing.{behind, hash_at-joined, here, joined_long, joined_same, lms_code_read, ots_code_read, public_key_read, word_here}
use Rattle.lms.proofs.Steps.{climbed_more, climbed_none}

-- Chains -------------------------------------------------------------------------------------------------------------------

step_suc : (fronts : List ℕ) (from n : ℕ) (value : List ℕ) → steps fronts from (suc n) value ≡ step fronts (from + n) (steps fronts from n value)
unfolding steps
step_suc fronts from n value = refl

no_step : (fronts : List ℕ) (from : ℕ) (value : List ℕ) → steps fronts from 0 value ≡ value
unfolding steps
no_step fronts from value = refl

-- a chain that is cut and continued is the whole chain
pub steps_on : (fronts : List ℕ) (count more : ℕ) (value : List ℕ) → steps fronts count more (steps fronts 0 count value) ≡ steps fronts 0 (count + more) value
steps_on fronts count zero value = no_step fronts count (steps fronts 0 count value) ∙ ap (λ n. steps fronts 0 n value) (omega arith)
steps_on fronts count (suc n) value =
    step_suc fronts count n (steps fronts 0 count value)
    ∙ ap (step fronts (count + n)) (steps_on fronts count n value)
    ∙ ap (λ k. step fronts k (steps fronts 0 (count + n) value)) (omega arith)
    ∙ sym (step_suc fronts 0 (count + n) value) ∙ ap (λ k. steps fronts 0 k value) (omega arith)

steps_long : (fronts : List ℕ) (count : ℕ) (value : List ℕ) → length value ≡ 32 → length (steps fronts 0 count value) ≡ 32
steps_long fronts zero value long = ap length (no_step fronts 0 value) ∙ long
steps_long fronts (suc n) value long = ap length (step_suc fronts 0 n value) ∙ length-sha256 _

value_long : (key : PrivateKey) (leaf chain count : ℕ) → length (value_after key leaf chain count) ≡ 32
value_long key leaf chain count = steps_long (front key.id leaf chain) count (secret key leaf chain) (length-sha256 _)

-- the end of a chain, from its signed value
end_again : (key : PrivateKey) (leaf : ℕ) (hash values : List ℕ) (chain : ℕ) → hash_at chain values ≡ signed_value key leaf hash chain
    → end_from key.ots key.id leaf hash values chain ≡ end_of key leaf chain
end_again key leaf hash values chain there =
    let fronts = front key.id leaf chain in
    let at = cut key.ots hash chain in
    let whole : at + (last_step key.ots - at) ≡ last_step key.ots = omega (arith, digit_le key.ots (with_checksum key.ots hash) chain) in
    ap (steps fronts at (last_step key.ots - at)) there
    ∙ steps_on fronts at (last_step key.ots - at) (secret key leaf chain)
    ∙ ap (λ n. steps fronts 0 n (secret key leaf chain)) whole

one_time_again : (key : PrivateKey) (leaf : ℕ) (hash : List ℕ)
    → key_candidate key.ots key.id leaf hash (joined (signed_value key leaf hash) (chain_count key.ots)) ≡ one_time_key key leaf
one_time_again key leaf hash =
    let f = signed_value key leaf hash in
    let values = joined f (chain_count key.ots) in
    let each : (i : ℕ) → length (f i) ≡ 32 = λ i. value_long key leaf i (cut key.ots hash i) in
    let same = joined_same (end_from key.ots key.id leaf hash values) (end_of key leaf) (chain_count key.ots)
    (λ i below. end_again key leaf hash values i (hash_at-joined f each (chain_count key.ots) i below)) in
    ap (λ (l : List ℕ). sha256 (front key.id leaf one_time_key_kind ++ l)) same

-- Trees --------------------------------------------------------------------------------------------------------------------

node_zero : (key : PrivateKey) (number : ℕ) → node key 0 number ≡ leaf_node key.id number (one_time_key key (number - leaf_count key.lms))
unfolding node
node_zero key number = refl

pub node_long : (key : PrivateKey) (level number : ℕ) → length (node key level number) ≡ 32
node_long key zero number = ap length (node_zero key number) ∙ length-sha256 _
node_long key (suc n) number = ap length (node_inner key n number) ∙ length-sha256 _

-- a node and the one beside it give the one above
node_up : (key : PrivateKey) (n number : ℕ) → node_above key.id number (node key n number) (node key n (sibling number)) ≡ node key (suc n) (number / 2)
node_up key n number = elim (cases_Bool (number % 2 == 1)) [
  | inl odd ↦
      let rest : number % 2 ≡ 1 = eqb-true (number % 2) 1 odd in
      let left : sibling number ≡ 2 * (number / 2) = odd_sibling number odd ∙ omega (arith, rest) in
      let right : number ≡ 2 * (number / 2) + 1 = omega (arith, rest) in
      cond-true (number % 2 == 1) _ _ odd
      ∙ ap (λ k. inner_node key.id (number / 2) (node key n k) (node key n number)) left
      ∙ ap (λ k. inner_node key.id (number / 2) (node key n (2 * (number / 2))) (node key n k)) right
      ∙ sym (node_inner key n (number / 2))
  | inr even ↦
      let rest = eqb-false (number % 2) 1 even in
      let left : number ≡ 2 * (number / 2) = omega (arith, rest) in
      let right : sibling number ≡ 2 * (number / 2) + 1 = even_sibling number even ∙ omega (arith, rest) in
      cond-false (number % 2 == 1) _ _ even
      ∙ ap (λ k. inner_node key.id (number / 2) (node key n number) (node key n k)) right
      ∙ ap (λ k. inner_node key.id (number / 2) (node key n k) (node key n (2 * (number / 2) + 1))) left
      ∙ sym (node_inner key n (number / 2))
]

-- the way from a leaf, by the nodes beside it
climbed_again : (key : PrivateKey) (leaf : ℕ) (first : List ℕ) (n : ℕ) → n ≤ height key.lms → first ≡ node key 0 (leaf_count key.lms + leaf)
    → climbed key.id (leaf_count key.lms + leaf) first (joined (beside key leaf) (height key.lms)) n ≡ node key n ((leaf_count key.lms + leaf) / 2 ^ n)
climbed_again key leaf first zero within is =
    climbed_none key.id (leaf_count key.lms + leaf) first (joined (beside key leaf) (height key.lms)) ∙ is ∙ ap (node key 0) (omega arith)
climbed_again key leaf first (suc n) within is =
    let number = leaf_count key.lms + leaf in
    let path = joined (beside key leaf) (height key.lms) in
    let each : (i : ℕ) → length (beside key leaf i) ≡ 32 = λ i. node_long key i (sibling (number / 2 ^ i)) in
    let next : suc n ≡ n + 1 = omega arith in
    ap (climbed key.id number first path) next
    ∙ climbed_more key.id number first path n
    ∙ ap (λ (l : List ℕ). node_above key.id (number / 2 ^ n) l (hash_at n path)) (climbed_again key leaf first n (omega (arith, within)) is)
    ∙ ap (λ (l : List ℕ). node_above key.id (number / 2 ^ n) (node key n (number / 2 ^ n)) l) (hash_at-joined (beside key leaf) each (height key.lms) n (omega (arith, within)))
    ∙ node_up key n (number / 2 ^ n)
    ∙ ap (node key (suc n)) (shr-shr number n 1 ∙ ap (λ k. number / 2 ^ k) (sym next))

-- Signatures ---------------------------------------------------------------------------------------------------------------

-- the root that a leaf's number, the randomizer, the chains' values and a path tell
abbrev root_of : PrivateKey → (text : List ℕ) (leaf : ℕ) (randomizer values path : List ℕ) → List ℕ
root_of key text leaf randomizer values path =
    climbed key.id (leaf_count key.lms + leaf)
    (leaf_node key.id (leaf_count key.lms + leaf) (key_candidate key.ots key.id leaf (text_hash key.id leaf randomizer text) values)) path (height key.lms)

root_again : (key : PrivateKey) (leaf : ℕ) (text : List ℕ) → leaf < leaf_count key.lms
    → root_of key text leaf (randomizer key leaf) (joined (signed_value key leaf (signed_hash key leaf text)) (chain_count key.ots))
    (joined (beside key leaf) (height key.lms)) ≡ node key (height key.lms) 1
root_again key leaf text fits =
    let number = leaf_count key.lms + leaf in
    let path = joined (beside key leaf) (height key.lms) in
    let same : number - leaf_count key.lms ≡ leaf = omega arith in
    let first : leaf_node key.id number (one_time_key key leaf) ≡ node key 0 number = sym (node_zero key number ∙ ap (λ k. leaf_node key.id number (one_time_key key k)) same) in
    let top : number / 2 ^ height key.lms ≡ 1 = ap (λ k. k / 2 ^ height key.lms) (omega arith) ∙ div-mul-add 1 (2 ^ height key.lms) leaf fits in
    ap (λ (k : List ℕ). climbed key.id number (leaf_node key.id number k) path (height key.lms)) (one_time_again key leaf (signed_hash key leaf text))
    ∙ climbed_again key leaf (leaf_node key.id number (one_time_key key leaf)) (height key.lms) (omega arith) first
    ∙ ap (node key (height key.lms)) top

-- what stands in a signature
record Stands (key : PrivateKey) (leaf : ℕ) (text signature : List ℕ) : Type 0 where
  long : length signature ≡ signature_length key.lms key.ots
  number : leaf_in signature ≡ leaf
  ots : word_at 4 signature ≡ ots_code key.ots
  lms : word_at (path_place key.ots) signature ≡ lms_code key.lms
  mixed : randomizer_in signature ≡ randomizer key leaf
  values : values_in key.ots signature ≡ joined (signed_value key leaf (signed_hash key leaf text)) (chain_count key.ots)
  path : path_in key.ots signature ≡ joined (beside key leaf) (height key.lms)

stands : (key : PrivateKey) (leaf : ℕ) (text : List ℕ) → leaf < leaf_count key.lms → Stands key leaf text (signature_of key leaf text)
stands key leaf text fits =
    let signature = signature_of key leaf text in
    let hash = signed_hash key leaf text in
    let mixed = randomizer key leaf in
    let values = joined (signed_value key leaf hash) (chain_count key.ots) in
    let path = joined (beside key leaf) (height key.lms) in
    let mixed_long : length mixed ≡ 32 = length-sha256 _ in
    let values_long = joined_long (signed_value key leaf hash) (λ i. value_long key leaf i (cut key.ots hash i)) (chain_count key.ots) in
    let path_long = joined_long (beside key leaf) (λ i. node_long key i (sibling ((leaf_count key.lms + leaf) / 2 ^ i))) (height key.lms) in
    let behind_values = to_be_bytes w32 (lms_code key.lms) ++ path in
    let behind_mixed = values ++ behind_values in
    let behind_code = mixed ++ behind_mixed in
    let at_code = behind 0 4 signature (to_be_bytes w32 leaf) (to_be_bytes w32 (ots_code key.ots) ++ behind_code) refl refl in
    let at_mixed = behind 4 4 signature (to_be_bytes w32 (ots_code key.ots)) behind_code refl at_code in
    let at_values = behind 8 32 signature mixed behind_mixed mixed_long at_mixed in
    let at_lms = behind 40 (32 * chain_count key.ots) signature values behind_values values_long at_values in
    let at_path = behind (path_place key.ots) 4 signature (to_be_bytes w32 (lms_code key.lms)) path refl at_lms in
    record {
      long = omega (arith, mixed_long, values_long, path_long, length-append mixed behind_mixed, length-append values behind_values);
      number = word_here 0 leaf signature (to_be_bytes w32 (ots_code key.ots) ++ behind_code) (omega (arith, fits, leaves_fit key.lms)) refl;
      ots = word_here 4 (ots_code key.ots) signature behind_code (ots_code_read key.ots).1 at_code;
      lms = word_here (path_place key.ots) (lms_code key.lms) signature path (lms_code_read key.lms).1 at_lms;
      mixed = here 8 32 signature mixed behind_mixed mixed_long at_mixed;
      values = here 40 (32 * chain_count key.ots) signature values behind_values values_long at_values;
      path = at_path;
    }

formed_again : (key : PrivateKey) (leaf : ℕ) (text signature : List ℕ) → leaf < leaf_count key.lms → Stands key leaf text signature
    → is_formed key.lms key.ots signature ≡ true
formed_again key leaf text signature fits s =
    and_from _ (nat_lt (leaf_in signature) (leaf_count key.lms))
    (and_from _ (word_at (path_place key.ots) signature == lms_code key.lms)
    (and_from (length signature == signature_length key.lms key.ots) (word_at 4 signature == ots_code key.ots)
    (eq-eqb (length signature) (signature_length key.lms key.ots) s.long) (eq-eqb (word_at 4 signature) (ots_code key.ots) s.ots))
    (eq-eqb (word_at (path_place key.ots) signature) (lms_code key.lms) s.lms))
    (lt-ltb (leaf_in signature) (leaf_count key.lms) (omega (arith, s.number, fits)))

candidate_again : (key : PrivateKey) (leaf : ℕ) (text signature : List ℕ) → leaf < leaf_count key.lms → Stands key leaf text signature
    → root_candidate (public_key key) text signature ≡ node key (height key.lms) 1
candidate_again key leaf text signature fits s =
    ap (λ l. root_of key text l (randomizer_in signature) (values_in key.ots signature) (path_in key.ots signature)) s.number
    ∙ ap (λ (c : List ℕ). root_of key text leaf c (values_in key.ots signature) (path_in key.ots signature)) s.mixed
    ∙ ap (λ (v : List ℕ). root_of key text leaf (randomizer key leaf) v (path_in key.ots signature)) s.values
    ∙ ap (λ (p : List ℕ). root_of key text leaf (randomizer key leaf) (joined (signed_value key leaf (signed_hash key leaf text)) (chain_count key.ots)) p) s.path
    ∙ root_again key leaf text fits

pub signed_by : (key : PrivateKey) (leaf : ℕ) (text : List ℕ) → leaf < leaf_count key.lms → is_signed (public_key key) text (signature_of key leaf text) ≡ true
unfolding is_signed
signed_by key leaf text fits =
    let signature = signature_of key leaf text in
    let s = stands key leaf text fits in
    let root = node key (height key.lms) 1 in
    and_from (is_formed key.lms key.ots signature) (bytes_eq (root_candidate (public_key key) text signature) root) (formed_again key leaf text signature fits s)
    ((bytes_eq-Decides (root_candidate (public_key key) text signature) root).1 (candidate_again key leaf text signature fits s))

pub signature_long : (key : PrivateKey) (leaf : ℕ) (text : List ℕ) → leaf < leaf_count key.lms → length (signature_of key leaf text) ≡ signature_length key.lms key.ots
signature_long key leaf text fits = (stands key leaf text fits).long

pub signed_verifies : SignedVerifies
signed_verifies key leaf text long fits =
    ap (λ k. is_signed_by k text (signature_of key leaf text)) (public_key_read (public_key key) long (node_long key (height key.lms) 1)) ∙ signed_by key leaf text fits
