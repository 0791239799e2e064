-- Whom the lines of a trace may name.
use Rattle.std.specs.Prelude.{ℕ, ◌≤◌}
use Rattle.bfs_model.specs.Server.Limits.{most_clients, most_replicas}

-- how many clients and replicas there are, which are numbered from 0
pub record Population : Type 0 where
  pub clients : ℕ
  pub replicas : ℕ

-- there is a client and a replica, and there are no more than there may be
abbrev pub IsPopulation : (clients replicas : ℕ) → Type 0
IsPopulation clients replicas = (1 ≤ clients) × (clients ≤ most_clients) × (1 ≤ replicas) × (replicas ≤ most_replicas)
