-- What stands where in public keys and signatures.
use Rattle.std.proofs.Common.{◌≡◌, ◌<◌, ◌+◌, ◌*◌, ◌^◌, inl, inr, ℕ, zero, suc, List, [], ◌++◌, length, take, drop, Option, Some, None, refl, sym, ap, ◌∙◌, arith, length-append}
use Rattle.std.specs.Prelude.{◌==◌, option_and_then}
use Rattle.std.specs.Int.{from_be_bytes, to_be_bytes, w32}
use Rattle.std.proofs.lemmas.Bool.{cases_lt, cond-true, eq-eqb}
use Rattle.std.proofs.lemmas.List.{drop-append-le, drop-drop, drop_at, length-drop, take-append-le, take_all, take_at}
use Rattle.std.proofs.lemmas.Nat.{from_be_bytes-to_be_bytes_4}
use Rattle.lms.specs.declared.types.OtsType.{OtsType}
use Rattle.lms.specs.declared.types.OtsType.TheVariants.{W1, W2, W4, W8}
use Rattle.lms.specs.declared.types.LmsType.{LmsType}
use Rattle.lms.specs.declared.types.LmsType.TheVariants.{H5, H10, H15, H20, H25}
use Rattle.lms.specs.declared.public_key.PublicKey.{PublicKey}
use Rattle.lms.specs.Types.{lms_code, lms_type, ots_code, ots_type}
use Rattle.lms.specs.Bytes.{hash_at, word_at}
use Rattle.lms.specs.Chains.{joined}
use Rattle.lms.specs.Keys.{public_key_bytes, public_key_in}

-- Typecodes ----------------------------------------------------------------------------------------------------------------

pub lms_code_read : (lms : LmsType) → (lms_type (lms_code lms) ≡ Some lms) × (lms_code lms < 2 ^ 32)
lms_code_read H5 = (refl, omega arith)
lms_code_read H10 = (refl, omega arith)
lms_code_read H15 = (refl, omega arith)
lms_code_read H20 = (refl, omega arith)
lms_code_read H25 = (refl, omega arith)

pub ots_code_read : (ots : OtsType) → (ots_type (ots_code ots) ≡ Some ots) × (ots_code ots < 2 ^ 32)
ots_code_read W1 = (refl, omega arith)
ots_code_read W2 = (refl, omega arith)
ots_code_read W4 = (refl, omega arith)
ots_code_read W8 = (refl, omega arith)

-- One part behind another --------------------------------------------------------------------------------------------------

-- what stands behind a part, at its end
pub behind : (place long : ℕ) (bytes part rest : List ℕ) → length part ≡ long → drop place bytes ≡ part ++ rest → drop (place + long) bytes ≡ rest
behind place long bytes part rest told e = sym (drop-drop long place bytes) ∙ ap (drop long) e ∙ drop_at part rest long told

pub here : (place long : ℕ) (bytes part rest : List ℕ) → length part ≡ long → drop place bytes ≡ part ++ rest → take long (drop place bytes) ≡ part
here place long bytes part rest told e = ap (take long) e ∙ take_at part rest long told

pub word_here : (place n : ℕ) (bytes rest : List ℕ) → n < 2 ^ 32 → drop place bytes ≡ to_be_bytes w32 n ++ rest → word_at place bytes ≡ n
word_here place n bytes rest small e =
    ap (from_be_bytes w32) (here place 4 bytes (to_be_bytes w32 n) rest refl e) ∙ from_be_bytes-to_be_bytes_4 n small

-- Hashes one behind another ------------------------------------------------------------------------------------------------

joined_suc : (f : ℕ → List ℕ) (n : ℕ) → joined f (suc n) ≡ joined f n ++ f n
unfolding joined
joined_suc f n = refl

joined_zero : (f : ℕ → List ℕ) → joined f 0 ≡ []
unfolding joined
joined_zero f = refl

pub joined_long : (f : ℕ → List ℕ) → ((i : ℕ) → length (f i) ≡ 32) → (n : ℕ) → length (joined f n) ≡ 32 * n
joined_long f each zero = ap length (joined_zero f)
joined_long f each (suc n) =
    ap length (joined_suc f n) ∙ length-append (joined f n) (f n) ∙ omega (arith, joined_long f each n, each n)

pub joined_same : (f g : ℕ → List ℕ) (n : ℕ) → ((i : ℕ) → i < n → f i ≡ g i) → joined f n ≡ joined g n
joined_same f g zero same = joined_zero f ∙ sym (joined_zero g)
joined_same f g (suc n) same =
    joined_suc f n ∙ ap (λ (l : List ℕ). l ++ f n) (joined_same f g n (λ i below. same i (omega (arith, below))))
    ∙ ap (λ (l : List ℕ). joined g n ++ l) (same n (omega arith)) ∙ sym (joined_suc g n)

pub hash_at-joined : (f : ℕ → List ℕ) → ((i : ℕ) → length (f i) ≡ 32) → (n i : ℕ) → i < n → hash_at i (joined f n) ≡ f i
hash_at-joined f each zero i below = absurd (omega arith)
hash_at-joined f each (suc k) i below = elim (cases_lt i k) [
  | inl before ↦
      let long = joined_long f each k in
      ap (hash_at i) (joined_suc f k)
      ∙ ap (take 32) (drop-append-le (32 * i) (joined f k) (f k) (omega (arith, long, before)))
      ∙ take-append-le 32 (drop (32 * i) (joined f k)) (f k) (omega (arith, long, before, length-drop (32 * i) (joined f k)))
      ∙ hash_at-joined f each k i before
  | inr past ↦
      let same : i ≡ k = omega (arith, below, past) in
      ap (λ j. hash_at j (joined f (suc k))) same
      ∙ ap (hash_at k) (joined_suc f k)
      ∙ ap (take 32) (drop_at (joined f k) (f k) (32 * k) (joined_long f each k))
      ∙ take_all 32 (f k) (omega (arith, each k))
      ∙ ap f (sym same)
]

-- Public keys --------------------------------------------------------------------------------------------------------------

abbrev key_of : (id root : List ℕ) (lms : LmsType) (ots : OtsType) → Option PublicKey
key_of id root lms ots = Some (record { lms = lms; ots = ots; id = id; root = root })

abbrev ots_then : (id root : List ℕ) (lms : LmsType) → Option OtsType → Option PublicKey
ots_then id root lms ots = option_and_then (λ ots. key_of id root lms ots) ots

abbrev lms_then : (id root : List ℕ) → Option OtsType → Option LmsType → Option PublicKey
lms_then id root ots lms = option_and_then (λ lms. ots_then id root lms ots) lms

pub public_key_read : (key : PublicKey) → length key.id ≡ 16 → length key.root ≡ 32 → public_key_in (public_key_bytes key) ≡ Some key
public_key_read key long_id long_root =
    let bytes = public_key_bytes key in
    let long : length bytes ≡ 56 = omega (arith, length-append key.id key.root, long_id, long_root) in
    let lms : lms_type (word_at 0 bytes) ≡ Some key.lms = ap lms_type (from_be_bytes-to_be_bytes_4 (lms_code key.lms) (lms_code_read key.lms).1) ∙ (lms_code_read key.lms).0 in
    let ots : ots_type (word_at 4 bytes) ≡ Some key.ots = ap ots_type (from_be_bytes-to_be_bytes_4 (ots_code key.ots) (ots_code_read key.ots).1) ∙ (ots_code_read key.ots).0 in
    let id : take 16 (drop 8 bytes) ≡ key.id = take_at key.id key.root 16 long_id in
    let root : take 32 (drop 24 bytes) ≡ key.root = ap (take 32) (drop_at key.id key.root 16 long_id) ∙ take_all 32 key.root (omega (arith, long_root)) in
    let there = lms_then (take 16 (drop 8 bytes)) (take 32 (drop 24 bytes)) (ots_type (word_at 4 bytes)) (lms_type (word_at 0 bytes)) in
    cond-true (length bytes == 56) there None (eq-eqb (length bytes) 56 long)
    ∙ ap (lms_then (take 16 (drop 8 bytes)) (take 32 (drop 24 bytes)) (ots_type (word_at 4 bytes))) lms
    ∙ ap (ots_then (take 16 (drop 8 bytes)) (take 32 (drop 24 bytes)) key.lms) ots
    ∙ ap (λ (l : List ℕ). key_of l (take 32 (drop 24 bytes)) key.lms key.ots) id
    ∙ ap (λ (l : List ℕ). key_of key.id l key.lms key.ots) root
