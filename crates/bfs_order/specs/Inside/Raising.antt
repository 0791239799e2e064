-- The low mark and the log are put back as they were before they were raised.
use Rattle.std.specs.Prelude.{Option, Some, None}
use Rattle.bfs_order.specs.Replica.States.{State}
use Rattle.bfs_order.specs.declared.installing.Before.{Before}

abbrev pub lowered : State → Option Before → State
lowered s None = s
lowered s (Some before) = record s { low = before.low; log = before.log }
