-- What is hashed for the root of a tree, and for the root that a signature tells.
use Rattle.std.specs.Prelude.{◌≡◌, ◌≢◌, ◌⊎◌, ℕ, ◌+◌, ◌*◌, ◌/◌, ◌%◌, ◌^◌, ◌<◌, ◌==◌, List, Some, ◌∷◌, ◌++◌, map, replicate, slice_get, if◌then◌else◌}
use Rattle.sha2.specs.Sha256.{sha256}
use Rattle.lms.specs.Bytes.{hash_at}
use Rattle.bfs_signatures.specs.Hashes.{climbed, leaf_hash}
use Rattle.bfs_signatures.specs.Signature.{height_in, number_in, path_in}
use Rattle.bfs_signatures.specs.Signing.{height_of, node}

-- for the node over that of the number and its sibling
abbrev pub hashed_above : (number : ℕ) (node sibling : List ℕ) → List ℕ
hashed_above number node sibling = 1 ∷ (if number % 2 == 1 then sibling ++ node else node ++ sibling)

-- for the tree over the texts: one of them, or two nodes beside each other
abbrev pub IsHashedOver : (texts : List (List ℕ)) (hashed : List ℕ) → Type 0
IsHashedOver texts hashed =
    ((place : ℕ) × (text : List ℕ) × (slice_get texts place ≡ Some text) × (hashed ≡ 0 ∷ text))
    ⊎ ((level : ℕ) × (number : ℕ) × (level < height_of (map leaf_hash texts))
    × (hashed ≡ 1 ∷ node (map leaf_hash texts) level (2 * number) ++ node (map leaf_hash texts) level (2 * number + 1)))

-- on the way from a text to the root, by a signature
abbrev pub IsHashedFrom : (text bytes hashed : List ℕ) → Type 0
IsHashedFrom text bytes hashed =
    (hashed ≡ 0 ∷ text)
    ⊎ ((level : ℕ) × (level < height_in bytes)
    × (hashed ≡ hashed_above (number_in bytes / 2 ^ level) (climbed (number_in bytes) (leaf_hash text) (path_in bytes) level) (hash_at level (path_in bytes))))

-- no two of these have one hash, and none has that which stands for a missing leaf
pub record DontCollide (texts : List (List ℕ)) (text bytes : List ℕ) : Type 0 where
  pub apart : (one other : List ℕ) → IsHashedOver texts one → IsHashedFrom text bytes other → sha256 one ≡ sha256 other → one ≡ other
  pub there : (hashed : List ℕ) → IsHashedFrom text bytes hashed → sha256 hashed ≢ replicate 32 0
