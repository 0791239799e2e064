-- Keys of one of the replicas of a system.
use Rattle.std.specs.Prelude.{◌≡◌, ◌<◌, ℕ, length}
use Rattle.bfs_votes.specs.Votes.{replicas}
use Rattle.bfs_auth.specs.Keys.{Keys}
use Rattle.bfs_auth.specs.declared.principals.Principal.TheVariants.{Replica}

-- of the replica of that number, which shares keys with each of the 3f + 1 where f may be faulty (OSDI 1999 section 3)
pub record AreOfReplica (f me : ℕ) (keys : Keys) : Type 0 where
  pub owner : keys.me ≡ Replica me
  pub among : me < replicas f
  pub all : length keys.replicas ≡ replicas f
