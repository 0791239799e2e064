-- What a call leaves.
use Rattle.std.specs.Prelude.{[], Option, Some, None}
use Rattle.bfs_log.specs.Logs.{Log}
use Rattle.bfs_order.specs.Replica.States.{State}
use Rattle.bfs_order.specs.declared.error.OrderError.{OrderError}

pub record Outcome : Type 0 where
  -- what is known then
  pub now : State
  -- what is to be sent to all other replicas
  pub sent : Log

abbrev pub quiet : State → Outcome
quiet s = record { now = s; sent = [] }

-- a refused call changes nothing
abbrev pub unless : Option OrderError → State → Outcome → Outcome
unless None s outcome = outcome
unless (Some error) s outcome = quiet s
