-- Keys of several levels (HSS, RFC 8554 section 6): the tree of each level signs the public key of the next, and the last one texts. What has more
-- than eight levels is malformed.
use Rattle.std.specs.Prelude.{ℕ, zero, suc, ◌+◌, ◌==◌, ◌&&◌, Bool, false, List, ◌++◌, length, take, drop, nat_le, nat_lt, Option, Some, None, option_map, if◌then◌else◌}
use Rattle.std.specs.Int.{to_be_bytes, w32}
use Rattle.lms.specs.declared.public_key.PublicKey.{PublicKey}
use Rattle.lms.specs.declared.hss.HssPublicKey.{HssPublicKey}
use Rattle.lms.specs.Bytes.{word_at}
use Rattle.lms.specs.Keys.{is_formed, public_key_bytes, public_key_in, signature_length}
use Rattle.lms.specs.Verifying.{is_signed}

abbrev pub most_levels : ℕ
most_levels = 8

abbrev pub hss_public_key_bytes : HssPublicKey → List ℕ
hss_public_key_bytes key = to_be_bytes w32 key.levels ++ public_key_bytes key.key

abbrev pub hss_public_key_in : List ℕ → Option HssPublicKey
hss_public_key_in bytes =
    if nat_le 4 (length bytes) && nat_lt 0 (word_at 0 bytes) && nat_le (word_at 0 bytes) most_levels
    then option_map (λ key. record { levels = word_at 0 bytes; key = key }) (public_key_in (drop 4 bytes)) else None

-- what stands at the front of a signature of several levels: one by the key, the public key that it signs, and the signatures of the levels below
abbrev pub first_signature : PublicKey → List ℕ → List ℕ
first_signature key bytes = take (signature_length key.lms key.ots) bytes

abbrev pub next_key : PublicKey → List ℕ → List ℕ
next_key key bytes = take 56 (drop (signature_length key.lms key.ots) bytes)

abbrev pub behind_key : PublicKey → List ℕ → List ℕ
behind_key key bytes = drop (signature_length key.lms key.ots + 56) bytes

-- the bytes are the signatures of the text by a key that has so many levels below it (algorithm 9)
unfoldable pub is_signed_over : (below : ℕ) → Option PublicKey → (text bytes : List ℕ) → Bool
is_signed_over below None text bytes = false
is_signed_over zero (Some key) text bytes = is_signed key text bytes
is_signed_over (suc n) (Some key) text bytes =
    is_signed key (next_key key bytes) (first_signature key bytes) && is_signed_over n (public_key_in (next_key key bytes)) text (behind_key key bytes)

-- the bytes may be signatures by a key that has so many levels below it: the lengths, the typecodes and the leaves' numbers are as the keys ask
unfoldable pub is_formed_over : (below : ℕ) → Option PublicKey → List ℕ → Bool
is_formed_over below None bytes = false
is_formed_over zero (Some key) bytes = is_formed key.lms key.ots bytes
is_formed_over (suc n) (Some key) bytes =
    is_formed key.lms key.ots (first_signature key bytes) && is_formed_over n (public_key_in (next_key key bytes)) (behind_key key bytes)

-- it is a signature of the text by the key
unfoldable pub hss_is_signed : HssPublicKey → (text signature : List ℕ) → Bool
hss_is_signed key text signature =
    nat_le 4 (length signature) && nat_lt (word_at 0 signature) most_levels && (word_at 0 signature + 1 == key.levels)
    && is_signed_over (word_at 0 signature) (Some key.key) text (drop 4 signature)

abbrev pub hss_is_signed_by : Option HssPublicKey → (text signature : List ℕ) → Bool
hss_is_signed_by None text signature = false
hss_is_signed_by (Some key) text signature = hss_is_signed key text signature

-- it is a signature of the text by the key that the bytes are
abbrev pub hss_verifies : (public_key text signature : List ℕ) → Bool
hss_verifies public_key text signature = hss_is_signed_by (hss_public_key_in public_key) text signature
