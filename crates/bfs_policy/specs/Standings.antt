-- Where replicas stand.
use Rattle.std.specs.Prelude.{ℕ, ◌+◌, ◌==◌, Bool, ◌&&◌, ◌||◌, nat_le, nat_lt}
use Rattle.bfs_model.specs.Server.Limits.{checkpoint_interval}
use Rattle.bfs_policy.specs.declared.facts.Standing.{Standing}

abbrev pub stand_alike : Standing → Standing → Bool
stand_alike one other = (one.view == other.view) && ((one.asked == other.asked) && ((one.last == other.last) && (one.stable == other.stable)))

-- another one may lack something that this one has said: it has not gone beyond the view that this one is in, or asks for; or its stable number is a
-- checkpoint behind what was executed here
abbrev pub may_lack : (own told : Standing) → Bool
may_lack own told = nat_le told.view own.view || (nat_lt told.view own.asked || nat_le (told.stable + checkpoint_interval) own.last)

-- it is in that view or a later one, or asks for one
abbrev pub goes_for : (view : ℕ) → Standing → Bool
goes_for view told = nat_le view told.view || nat_le view told.asked

-- its stable number is above that one
abbrev pub is_ahead : (last : ℕ) → Standing → Bool
is_ahead last told = nat_lt last told.stable
