-- What is signed of many texts at once, by an index of a key of several levels.
use Rattle.std.specs.Prelude.{ℕ, zero, suc, ◌+◌, ◌*◌, ◌/◌, ◌^◌, List, ◌++◌, length, map, nat_lt, replicate, slice_index_or, if◌then◌else◌}
use Rattle.std.specs.Int.{to_be_bytes, w32}
use Rattle.std.specs.List.{range_with_len}
use Rattle.lms.specs.Chains.{joined}
use Rattle.lms.specs.Secrets.{sibling}
use Rattle.lms.specs.Signers.{HssKey, hss_signature_of}
use Rattle.bfs_signatures.specs.Hashes.{leaf_hash, node_hash}
use Rattle.bfs_signatures.specs.Signature.{most_height}

-- the least height up to that one whose tree has room for so many leaves
unfoldable pub least_height : (most count : ℕ) → ℕ
least_height zero count = 0
least_height (suc n) count = if nat_lt (2 ^ n) count then suc n else least_height n count

abbrev pub height_of : (leaves : List (List ℕ)) → ℕ
height_of leaves = least_height most_height (length leaves)

-- the node of that number so many levels above the leaves; of leaves that are missing 32 bytes 0 stand for the hash
unfoldable pub node : (leaves : List (List ℕ)) (level number : ℕ) → List ℕ
node leaves zero number = slice_index_or leaves number (replicate 32 0)
node leaves (suc n) number = node_hash (node leaves n (2 * number)) (node leaves n (2 * number + 1))

abbrev pub root : (leaves : List (List ℕ)) → List ℕ
root leaves = node leaves (height_of leaves) 0

-- the node so many levels above the leaves that stands beside the way from one of them to the root
abbrev pub beside : (leaves : List (List ℕ)) (leaf level : ℕ) → List ℕ
beside leaves leaf level = node leaves level (sibling (leaf / 2 ^ level))

-- the signature of the text with the leaf of that number, by a signature of the root
abbrev pub signature_under : (root_signature : List ℕ) (leaves : List (List ℕ)) (leaf : ℕ) → List ℕ
signature_under root_signature leaves leaf =
    to_be_bytes w32 leaf ++ (to_be_bytes w32 (height_of leaves) ++ (joined (beside leaves leaf) (height_of leaves) ++ root_signature))

abbrev pub signatures_under : (root_signature : List ℕ) (leaves : List (List ℕ)) → List (List ℕ)
signatures_under root_signature leaves = map (signature_under root_signature leaves) (range_with_len 0 (length leaves))

-- the signatures of texts with these leaves, one after another
abbrev pub signatures_of_leaves : HssKey → (index : ℕ) (leaves : List (List ℕ)) → List (List ℕ)
signatures_of_leaves key index leaves = signatures_under (hss_signature_of key index (root leaves)) leaves

abbrev pub signatures_of : HssKey → (index : ℕ) (texts : List (List ℕ)) → List (List ℕ)
signatures_of key index texts = signatures_of_leaves key index (map leaf_hash texts)
