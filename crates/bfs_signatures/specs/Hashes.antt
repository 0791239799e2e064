-- Hashes of a tree over texts (RFC 9162 section 2.1.1): the byte before what is hashed tells leaves from the other nodes.
use Rattle.std.specs.Prelude.{ℕ, zero, suc, ◌/◌, ◌%◌, ◌^◌, ◌==◌, List, ◌∷◌, ◌++◌, length, if◌then◌else◌}
use Rattle.sha2.specs.Sha256.{sha256}
use Rattle.lms.specs.Bytes.{hash_at}

abbrev pub leaf_hash : (text : List ℕ) → List ℕ
leaf_hash text = sha256 (0 ∷ text)

abbrev pub node_hash : (left right : List ℕ) → List ℕ
node_hash left right = sha256 (1 ∷ left ++ right)

-- the node over that of the number and its sibling: an odd one is on the right
abbrev pub node_above : (number : ℕ) (node sibling : List ℕ) → List ℕ
node_above number node sibling = if number % 2 == 1 then node_hash sibling node else node_hash node sibling

-- the node so many levels above that of the number, by the siblings on the way: at each step the number is halved
unfoldable pub climbed : (number : ℕ) (node path : List ℕ) (levels : ℕ) → List ℕ
climbed number node path zero = node
climbed number node path (suc n) = node_above (number / 2 ^ n) (climbed number node path n) (hash_at n path)

-- the root over the leaf of that number, by the hashes from the leaf up, of 32 bytes each (section 2.1.3.2, of a tree with all its leaves)
abbrev pub root_from : (number : ℕ) (leaf path : List ℕ) → List ℕ
root_from number leaf path = climbed number leaf path (length path / 32)
