-- What the counts of replicas lead to.
use Rattle.std.specs.Prelude.{◌≡◌, ℕ, ◌+◌, ◌*◌, ◌<◌, ◌≤◌, Bool, true, false}
use Rattle.bfs_votes.specs.Votes.{count_below, replicas}

-- any two sets of 2f + 1 replicas share one that is not faulty, where at most f are (OSDI 1999 section 4.2)
abbrev pub QuorumsMeet : Type 0
QuorumsMeet = (f : ℕ) (first second faulty : ℕ → Bool)
    → 2 * f + 1 ≤ count_below first (replicas f) → 2 * f + 1 ≤ count_below second (replicas f) → count_below faulty (replicas f) ≤ f
    → (k : ℕ) × (k < replicas f) × (first k ≡ true) × (second k ≡ true) × (faulty k ≡ false)
