-- A log that only grew.
use Rattle.std.specs.Prelude.{◌≡◌}
use Rattle.bfs_log.specs.Logs.{Log}
use Rattle.bfs_order.specs.Replica.States.{State, with_more}

abbrev pub Grown : State → State → Type 0
Grown s t = (more : Log) × (t ≡ with_more s more)
