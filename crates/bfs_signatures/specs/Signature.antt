-- The signature of one text, as bytes: the number of its leaf, the height of the tree, the hashes from the leaf up, and the signature of the root by a key of
-- several levels (RFC 8554).
use Rattle.std.specs.Prelude.{ℕ, ◌+◌, ◌*◌, ◌^◌, ◌&&◌, Bool, List, length, take, drop, nat_le, nat_lt, Option, Some, None, if◌then◌else◌}
use Rattle.lms.specs.Bytes.{word_at}
use Rattle.lms.specs.Levels.{hss_verifies}
use Rattle.bfs_signatures.specs.Hashes.{leaf_hash, root_from}

-- how many levels a tree has at most above its leaves
abbrev pub most_height : ℕ
most_height = 12

abbrev pub number_in : List ℕ → ℕ
number_in bytes = word_at 0 bytes

abbrev pub height_in : List ℕ → ℕ
height_in bytes = word_at 4 bytes

abbrev pub path_in : List ℕ → List ℕ
path_in bytes = take (32 * height_in bytes) (drop 8 bytes)

abbrev pub root_signature_in : List ℕ → List ℕ
root_signature_in bytes = drop (8 + 32 * height_in bytes) bytes

-- the bytes may be a signature: they hold a path, and the leaf is one of the tree
abbrev pub is_formed : List ℕ → Bool
is_formed bytes =
    nat_le 8 (length bytes) && nat_le (height_in bytes) most_height && nat_lt (number_in bytes) (2 ^ height_in bytes)
    && nat_le (8 + 32 * height_in bytes) (length bytes)

-- the root that a signature of the leaf tells
abbrev pub root_in : (leaf bytes : List ℕ) → List ℕ
root_in leaf bytes = root_from (number_in bytes) leaf (path_in bytes)

-- it is a signature of the text with that leaf, by the key that the first bytes are
abbrev pub is_signature_of_leaf : (public_key leaf bytes : List ℕ) → Bool
is_signature_of_leaf public_key leaf bytes = is_formed bytes && hss_verifies public_key (root_in leaf bytes) (root_signature_in bytes)

abbrev pub is_signature : (public_key text bytes : List ℕ) → Bool
is_signature public_key text bytes = is_signature_of_leaf public_key (leaf_hash text) bytes

-- the root, and the signature of it, where the bytes may be a signature
abbrev pub root_of : (leaf bytes : List ℕ) → Option (List ℕ)
root_of leaf bytes = if is_formed bytes then Some (root_in leaf bytes) else None

abbrev pub root_signature_of : List ℕ → Option (List ℕ)
root_signature_of bytes = if is_formed bytes then Some (root_signature_in bytes) else None
