-- One level up.
use Rattle.std.proofs.Common.{◌≡◌, ◌+◌, ◌/◌, ◌^◌, ℕ, suc, List, refl, ap, ◌∙◌, arith}
use Rattle.lms.specs.Bytes.{hash_at}
use Rattle.bfs_signatures.specs.Hashes.{climbed, node_above}

climbed_suc : (number : ℕ) (node path : List ℕ) (n : ℕ)
    → climbed number node path (suc n) ≡ node_above (number / 2 ^ n) (climbed number node path n) (hash_at n path)
unfolding climbed
climbed_suc number node path n = refl

pub climbed_none : (number : ℕ) (node path : List ℕ) → climbed number node path 0 ≡ node
unfolding climbed
climbed_none number node path = refl

pub climbed_more : (number : ℕ) (node path : List ℕ) (n : ℕ)
    → climbed number node path (n + 1) ≡ node_above (number / 2 ^ n) (climbed number node path n) (hash_at n path)
climbed_more number node path n =
    let more : n + 1 ≡ suc n = omega arith in
    ap (climbed number node path) more ∙ climbed_suc number node path n
