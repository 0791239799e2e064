-- Whether others have gone on: by the CHECKPOINTs in the log (OSDI 1999 section 4.3).
use Rattle.std.specs.Prelude.{ℕ, ◌+◌, ◌*◌, ◌==◌, Bool, ◌&&◌, not, List, [], ◌∷◌, nat_lt, nat_le}
use Rattle.std.specs.List.{list_any}
use Rattle.bfs_votes.specs.Tags.{checkpoint_tag}
use Rattle.bfs_votes.specs.Votes.{count_below, has_slot, replicas}
use Rattle.bfs_model.specs.Server.Limits.{checkpoint_interval}
use Rattle.bfs_order.specs.Replica.States.{State, known}

-- of which there may be CHECKPOINTs in the log: the stable one, and those above it up to the high mark
abbrev pub checkpoint_numbers : State → List ℕ
checkpoint_numbers s = s.low ∷ (s.low + checkpoint_interval) ∷ (s.low + 2 * checkpoint_interval) ∷ []

-- the replica has told a checkpoint above the number last executed here
abbrev pub is_ahead : State → (sender : ℕ) → Bool
is_ahead s sender = list_any (λ number. nat_lt s.last number && has_slot (known s) checkpoint_tag sender 0 number) (checkpoint_numbers s)

-- f + 1 others have, so a correct one is among them
abbrev pub is_behind : State → Bool
is_behind s = nat_le (s.f + 1) (count_below (λ k. not (k == s.me) && is_ahead s k) (replicas s.f))
