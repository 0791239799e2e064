-- What is signed passes: contracts of functions of src/laws.rt, which do nothing.
use Rattle.std.specs.Prelude.{◌≡◌, ℕ, ◌<◌, List, length, true}
use Rattle.lms.specs.declared.private_key.PrivateKey.{PrivateKey}
use Rattle.lms.specs.Types.{leaf_count}
use Rattle.lms.specs.Keys.{public_key_bytes}
use Rattle.lms.specs.Verifying.{verifies}
use Rattle.lms.specs.Secrets.{public_key, signature_of}
use Rattle.lms.specs.Levels.{hss_public_key_bytes, hss_verifies, most_levels}
use Rattle.lms.specs.Signers.{HssKey, hss_public_key, hss_signature_of, index_count}

-- of every private key, each of its leaves signs every text
abbrev pub SignedVerifies : Type 0
SignedVerifies = (key : PrivateKey) (leaf : ℕ) (text : List ℕ)
    → length key.id ≡ 16
    → leaf < leaf_count key.lms
    → verifies (public_key_bytes (public_key key)) text (signature_of key leaf text) ≡ true

-- of every private key of one to eight levels, each of its indexes signs every text
abbrev pub HssSignedVerifies : Type 0
HssSignedVerifies = (key : HssKey) (index : ℕ) (text : List ℕ)
    → length key.first.id ≡ 16
    → length key.below < most_levels
    → index < index_count key
    → hss_verifies (hss_public_key_bytes (hss_public_key key)) text (hss_signature_of key index text) ≡ true
