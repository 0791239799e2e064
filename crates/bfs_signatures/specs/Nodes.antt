-- Nodes of a tree as a signer keeps them: level after level, from the leaves up to the root.
use Rattle.std.specs.Prelude.{◌≡◌, ℕ, ◌+◌, ◌-◌, ◌*◌, ◌^◌, ◌<◌, ◌≤◌, List, [], length, slice_index_or}
use Rattle.bfs_signatures.specs.Signature.{most_height}
use Rattle.bfs_signatures.specs.Signing.{height_of, node}

-- how many nodes a tree has
abbrev pub node_count : (height : ℕ) → ℕ
node_count height = 2 * 2 ^ height - 1

-- where a node stands: each level has half as many nodes as the one below it
abbrev pub place_of : (height level number : ℕ) → ℕ
place_of height level number = 2 * 2 ^ height - 2 * 2 ^ (height - level) + number

-- the nodes are those over the leaves, from the first one on
abbrev pub HasNodes : (leaves : List (List ℕ)) (height : ℕ) (nodes : List (List ℕ)) → Type 0
HasNodes leaves height nodes =
    (level number : ℕ) → level ≤ height → number < 2 ^ (height - level) → place_of height level number < length nodes
    → slice_index_or nodes (place_of height level number) [] ≡ node leaves level number

-- they are all of them, and no more levels than need be
abbrev pub IsTreeOver : (leaves : List (List ℕ)) (height : ℕ) (nodes : List (List ℕ)) → Type 0
IsTreeOver leaves height nodes = (height ≤ most_height) × (height ≡ height_of leaves) × (length nodes ≡ node_count height) × HasNodes leaves height nodes
