-- Public keys and signatures of a tree as bytes (RFC 8554 sections 5.3 and 5.4).
use Rattle.std.specs.Prelude.{ℕ, ◌+◌, ◌*◌, ◌==◌, ◌&&◌, Bool, List, ◌++◌, length, take, drop, nat_lt, Option, Some, None, option_and_then, if◌then◌else◌}
use Rattle.std.specs.Int.{to_be_bytes, w32}
use Rattle.lms.specs.declared.types.OtsType.{OtsType}
use Rattle.lms.specs.declared.types.LmsType.{LmsType}
use Rattle.lms.specs.declared.public_key.PublicKey.{PublicKey}
use Rattle.lms.specs.Types.{chain_count, height, leaf_count, lms_code, lms_type, ots_code, ots_type}
use Rattle.lms.specs.Bytes.{word_at}

abbrev pub public_key_bytes : PublicKey → List ℕ
public_key_bytes key = to_be_bytes w32 (lms_code key.lms) ++ (to_be_bytes w32 (ots_code key.ots) ++ (key.id ++ key.root))

-- the public key that the bytes are
abbrev pub public_key_in : List ℕ → Option PublicKey
public_key_in bytes =
    if length bytes == 56 then option_and_then
    (λ lms. option_and_then (λ ots. Some (record { lms = lms; ots = ots; id = take 16 (drop 8 bytes); root = take 32 (drop 24 bytes) })) (ots_type (word_at 4 bytes)))
    (lms_type (word_at 0 bytes)) else None

-- where a signature has its second typecode: behind the number of its leaf, the first typecode, the randomizer and a hash of each chain
abbrev pub path_place : OtsType → ℕ
path_place ots = 40 + 32 * chain_count ots

-- bytes of a signature
abbrev pub signature_length : LmsType → OtsType → ℕ
signature_length lms ots = path_place ots + 4 + 32 * height lms

-- what a signature has: the number of its leaf, the randomizer, a hash of each chain, and the siblings from the leaf up
abbrev pub leaf_in : List ℕ → ℕ
leaf_in signature = word_at 0 signature

abbrev pub randomizer_in : List ℕ → List ℕ
randomizer_in signature = take 32 (drop 8 signature)

abbrev pub values_in : OtsType → List ℕ → List ℕ
values_in ots signature = take (32 * chain_count ots) (drop 40 signature)

abbrev pub path_in : OtsType → List ℕ → List ℕ
path_in ots signature = drop (path_place ots + 4) signature

-- of a key with these types the bytes may be a signature: their length, their typecodes and the leaf's number are as it asks
abbrev pub is_formed : LmsType → OtsType → List ℕ → Bool
is_formed lms ots signature =
    (length signature == signature_length lms ots) && (word_at 4 signature == ots_code ots) && (word_at (path_place ots) signature == lms_code lms)
    && nat_lt (leaf_in signature) (leaf_count lms)
