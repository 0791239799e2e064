-- The certificate of a checkpoint is installed, by which a replica catches up (OSDI 1999 section 4.3).
use Rattle.std.specs.Prelude.{◌&&◌, ◌||◌, Bool, not, max, [], ◌∷◌, ◌++◌, Option, Some, None, nat_lt, if◌then◌else◌}
use Rattle.bfs_auth.specs.Keys.{Keys}
use Rattle.bfs_votes.specs.Votes.{is_taken}
use Rattle.bfs_log.specs.Certificates.{StableCheckpoint, checkpoints_in, is_shown}
use Rattle.bfs_log.specs.Headers.{header}
use Rattle.bfs_log.specs.Logs.{Log, headers, kept_after}
use Rattle.bfs_messages.specs.declared.signed.Signed.{Signed}
use Rattle.bfs_messages.specs.declared.order_messages.OrderMessage.{OrderMessage}
use Rattle.bfs_order.specs.Replica.Outcomes.{Outcome, quiet}
use Rattle.bfs_order.specs.Replica.States.{State}
use Rattle.bfs_order.specs.declared.error.OrderError.{OrderError}
use Rattle.bfs_order.specs.declared.error.OrderError.TheVariants.{OutsideMarks, NoCertificate}

-- unless there is one of its kind, sender, view and number
abbrev pub with_new : Log → Signed OrderMessage → Log
with_new log m = if is_taken (headers log) (header m) then log else log ++ m ∷ []

abbrev pub with_each : Log → Log → Log
with_each log [] = log
with_each log (m ∷ ms) = with_each (with_new log m) ms

abbrev pub install_refusal : Keys → State → StableCheckpoint → Option OrderError
install_refusal keys s c =
    if not (is_shown keys s.f c) then Some NoCertificate else
    (if not (nat_lt s.low c.number || nat_lt s.last c.number) then Some OutsideMarks else None)

-- what stands up to it goes, and the CHECKPOINTs that tell it stand in the log
abbrev pub certified : Log → StableCheckpoint → Log
certified log c = with_each (kept_after c.number c.digest log) (checkpoints_in c)

-- the low mark and the number last executed rise to it, each where it is below
abbrev pub installed : State → StableCheckpoint → Outcome
installed s c = quiet (record s {
  low = max s.low c.number;
  last = max s.last c.number;
  log = (if nat_lt s.low c.number then certified s.log c else s.log);
})

-- it is above the low mark, and shown to be stable
abbrev pub raises : Keys → State → StableCheckpoint → Bool
raises keys s c = nat_lt s.low c.number && is_shown keys s.f c

-- the low mark rises to one that does; the number last executed stays, since the state behind the checkpoint is not there
abbrev pub raised : Keys → State → Option StableCheckpoint → State
raised keys s None = s
raised keys s (Some c) = if raises keys s c then record s { low = c.number; log = certified s.log c } else s
