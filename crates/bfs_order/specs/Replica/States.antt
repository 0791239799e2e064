-- What a replica knows of the order.
use Rattle.std.specs.Prelude.{ℕ, List, [], ◌∷◌, ◌++◌}
use Rattle.bfs_votes.specs.Votes.{Header}
use Rattle.bfs_log.specs.Logs.{Log, headers}
use Rattle.bfs_messages.specs.declared.signed.Signed.{Signed}
use Rattle.bfs_messages.specs.declared.order_messages.OrderMessage.{OrderMessage}

pub record State : Type 0 where
  -- at most so many of 3f + 1 replicas are faulty
  pub f : ℕ
  -- its own number among them
  pub me : ℕ
  -- the view last entered
  pub view : ℕ
  -- the view last asked for: above the one entered while a view change is under way
  pub asked : ℕ
  -- the low mark: the number of the stable checkpoint
  pub low : ℕ
  -- the view has no batch up to that number
  pub min_s : ℕ
  -- the greatest number of what was handed over when the view was entered
  pub handed : ℕ
  -- the number last executed
  pub last : ℕ
  -- what was accepted and not dropped, its own messages among it, in the order in which it came
  pub log : Log

-- of a replica that has accepted nothing, in view 0
abbrev pub fresh : (f me : ℕ) → State
fresh f me = record { f = f; me = me; view = 0; asked = 0; low = 0; min_s = 0; handed = 0; last = 0; log = [] }

-- what its log tells, by headers
abbrev pub known : State → List Header
known s = headers s.log

abbrev pub with_more : State → Log → State
with_more s more = record s { log = s.log ++ more }

abbrev pub with_message : State → Signed OrderMessage → State
with_message s m = with_more s (m ∷ [])
