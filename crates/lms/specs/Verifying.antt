-- Which signatures pass (RFC 8554 sections 5.4.2 and 6.3). Bytes that are malformed in any way do not.
use Rattle.std.specs.Prelude.{ℕ, ◌+◌, ◌&&◌, Bool, false, List, bytes_eq, Option, Some, None}
use Rattle.lms.specs.declared.public_key.PublicKey.{PublicKey}
use Rattle.lms.specs.Types.{height, leaf_count}
use Rattle.lms.specs.OneTime.{key_candidate, text_hash}
use Rattle.lms.specs.Trees.{climbed, leaf_node}
use Rattle.lms.specs.Keys.{is_formed, leaf_in, path_in, public_key_in, randomizer_in, values_in}

-- the one-time public key that a signature of the text tells
abbrev pub one_time_key_in : PublicKey → (text signature : List ℕ) → List ℕ
one_time_key_in key text signature =
    key_candidate key.ots key.id (leaf_in signature) (text_hash key.id (leaf_in signature) (randomizer_in signature) text) (values_in key.ots signature)

-- the root that a signature of the text tells (algorithm 6a)
abbrev pub root_candidate : PublicKey → (text signature : List ℕ) → List ℕ
root_candidate key text signature =
    let node = leaf_count key.lms + leaf_in signature in
    climbed key.id node (leaf_node key.id node (one_time_key_in key text signature)) (path_in key.ots signature) (height key.lms)

-- it is a signature of the text by the key
unfoldable pub is_signed : PublicKey → (text signature : List ℕ) → Bool
is_signed key text signature = is_formed key.lms key.ots signature && bytes_eq (root_candidate key text signature) key.root

abbrev pub is_signed_by : Option PublicKey → (text signature : List ℕ) → Bool
is_signed_by None text signature = false
is_signed_by (Some key) text signature = is_signed key text signature

-- it is a signature of the text by the key that the bytes are
abbrev pub verifies : (public_key text signature : List ℕ) → Bool
verifies public_key text signature = is_signed_by (public_key_in public_key) text signature
