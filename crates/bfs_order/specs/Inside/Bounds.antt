-- What the numbers of a replica never leave.
use Rattle.std.specs.Prelude.{◌<◌, ◌≤◌, ◌+◌, ◌*◌}
use Rattle.bfs_order.specs.Replica.States.{State}
use Rattle.bfs_model.specs.Server.Limits.{most_faults, most_number}

pub record IsBounded (s : State) : Type 0 where
  pub faults : s.f ≤ most_faults
  pub me : s.me < 3 * s.f + 1
  pub view : s.view ≤ most_number
  pub asked : s.asked ≤ most_number
  pub low : s.low ≤ most_number
  pub last : s.last ≤ most_number
