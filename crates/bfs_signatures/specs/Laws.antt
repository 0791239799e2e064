-- What holds of all keys and texts: contracts of functions of src/laws.rt, which do nothing.
use Rattle.std.specs.Prelude.{◌≡◌, ◌<◌, ◌≤◌, ◌^◌, ℕ, List, Some, length, map, slice_get, true}
use Rattle.lms.specs.Levels.{hss_public_key_bytes, most_levels}
use Rattle.lms.specs.Signers.{HssKey, hss_public_key, index_count}
use Rattle.bfs_signatures.specs.Hashes.{leaf_hash}
use Rattle.bfs_signatures.specs.Signature.{is_signature, is_signature_of_leaf, most_height, number_in, root_of, root_signature_of}
use Rattle.bfs_signatures.specs.Signing.{least_height, root, signatures_of}
use Rattle.bfs_signatures.specs.Hashed.{DontCollide}

-- of two signatures with one root and one signature of it, one passes where the other does
abbrev pub PassesLike : Type 0
PassesLike = (public_key leaf other_leaf bytes other_bytes : List ℕ)
    → root_of leaf bytes ≡ root_of other_leaf other_bytes
    → root_signature_of bytes ≡ root_signature_of other_bytes
    → is_signature_of_leaf public_key leaf bytes ≡ is_signature_of_leaf public_key other_leaf other_bytes

-- of every private key of one to eight levels, each of its indexes signs each of some texts
abbrev pub SignedTextsVerify : Type 0
SignedTextsVerify = (key : HssKey) (index : ℕ) (texts : List (List ℕ)) (place : ℕ) (text bytes : List ℕ)
    → length key.first.id ≡ 16
    → length key.below < most_levels
    → index < index_count key
    → length texts ≤ 2 ^ most_height
    → slice_get texts place ≡ Some text
    → slice_get (signatures_of key index texts) place ≡ Some bytes
    → is_signature (hss_public_key_bytes (hss_public_key key)) text bytes ≡ true

-- the height of a tree has room for the leaves, and no lower one has
abbrev pub HeightIsLeast : Type 0
HeightIsLeast = (count : ℕ) → count ≤ 2 ^ most_height
    → (count ≤ 2 ^ least_height most_height count) × ((height : ℕ) → count ≤ 2 ^ height → least_height most_height count ≤ height)

-- a signature that tells the root of a tree is of the text whose leaf has its number
abbrev pub RootTellsTexts : Type 0
RootTellsTexts = (texts : List (List ℕ)) (text bytes : List ℕ)
    → DontCollide texts text bytes
    → root_of (leaf_hash text) bytes ≡ Some (root (map leaf_hash texts))
    → slice_get texts (number_in bytes) ≡ Some text
