-- Trees of hashes (LMS, RFC 8554 section 5). Node 1 is the root, and those below node r are 2 r and 2 r + 1.
use Rattle.std.specs.Prelude.{ℕ, zero, suc, ◌/◌, ◌%◌, ◌^◌, ◌==◌, List, ◌++◌, if◌then◌else◌}
use Rattle.sha2.specs.Sha256.{sha256}
use Rattle.lms.specs.Chains.{front, leaf_kind, node_kind}
use Rattle.lms.specs.Bytes.{hash_at}

-- the node of that number over the leaf with that one-time public key
abbrev pub leaf_node : (id : List ℕ) (number : ℕ) (key : List ℕ) → List ℕ
leaf_node id number key = sha256 (front id number leaf_kind ++ key)

-- the node of that number over two
abbrev pub inner_node : (id : List ℕ) (number : ℕ) (left right : List ℕ) → List ℕ
inner_node id number left right = sha256 (front id number node_kind ++ (left ++ right))

-- the node over that of the number and its sibling: an odd one is on the right
abbrev pub node_above : (id : List ℕ) (number : ℕ) (node sibling : List ℕ) → List ℕ
node_above id number node sibling = if number % 2 == 1 then inner_node id (number / 2) sibling node else inner_node id (number / 2) node sibling

-- the node so many levels above that of the number, by the siblings on the way (algorithm 6a, step 4)
unfoldable pub climbed : (id : List ℕ) (number : ℕ) (node path : List ℕ) (levels : ℕ) → List ℕ
climbed id number node path zero = node
climbed id number node path (suc n) = node_above id (number / 2 ^ n) (climbed id number node path n) (hash_at n path)
