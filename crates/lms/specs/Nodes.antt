-- Nodes of a tree as a signer keeps them: from the last leaf down to the root, so that those below a node stand before it.
use Rattle.std.specs.Prelude.{◌≡◌, ℕ, ◌+◌, ◌-◌, ◌*◌, ◌^◌, ◌<◌, ◌≤◌, List, [], length, slice_index_or}
use Rattle.lms.specs.declared.private_key.PrivateKey.{PrivateKey}
use Rattle.lms.specs.Types.{leaf_count}
use Rattle.lms.specs.Secrets.{node}

-- how many nodes a tree has
abbrev pub node_count : PrivateKey → ℕ
node_count key = 2 * leaf_count key.lms - 1

-- the node of that number stands so many levels above the leaves, whose numbers go from the count of leaves on
abbrev pub IsAtLevel : (leaves level number : ℕ) → Type 0
IsAtLevel leaves level number = (leaves ≤ number * 2 ^ level) × ((number + 1) * 2 ^ level ≤ 2 * leaves)

-- the nodes are those of the key's tree, from the last one on
abbrev pub HasNodes : PrivateKey → (nodes : List (List ℕ)) → Type 0
HasNodes key nodes =
    (level number : ℕ) → IsAtLevel (leaf_count key.lms) level number → node_count key - number < length nodes
    → slice_index_or nodes (node_count key - number) [] ≡ node key level number
