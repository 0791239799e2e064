-- A view is left, and a later one is entered (OSDI 1999 section 4.4).
use Rattle.std.specs.Prelude.{ℕ, ◌&&◌, not, max, [], ◌∷◌, ◌++◌, List, map, Option, Some, None, nat_lt, nat_le, if◌then◌else◌}
use Rattle.bfs_auth.specs.Keys.{Keys}
use Rattle.bfs_log.specs.Certificates.{StableCheckpoint}
use Rattle.bfs_log.specs.Headers.{header}
use Rattle.bfs_log.specs.Logs.{Log}
use Rattle.bfs_messages.specs.Messages as model
use Rattle.bfs_messages.specs.Signing.{as_message}
use Rattle.bfs_messages.specs.declared.order_messages.OrderMessage.TheVariants.{PrePrepare}
use Rattle.bfs_messages.specs.declared.signed.Signed.{Signed}
use Rattle.bfs_messages.specs.declared.order_messages.OrderMessage.{OrderMessage}
use Rattle.bfs_order.specs.Replica.Accepting.{accepted}
use Rattle.bfs_order.specs.Replica.Installing.{raised}
use Rattle.bfs_order.specs.Replica.Outcomes.{Outcome, quiet, unless}
use Rattle.bfs_order.specs.Replica.Refusals.{place_refusal}
use Rattle.bfs_order.specs.Replica.States.{State}
use Rattle.bfs_order.specs.declared.error.OrderError.{OrderError}
use Rattle.bfs_order.specs.declared.error.OrderError.TheVariants.{WrongView}
use Rattle.bfs_model.specs.Server.Limits.{most_number}

-- only for a view above the one entered and the one asked for
abbrev pub leaving_refusal : State → (view : ℕ) → Option OrderError
leaving_refusal s view = if not (nat_lt (max s.view s.asked) view && nat_le view most_number) then Some WrongView else None

abbrev pub left : State → (view : ℕ) → Outcome
left s view = quiet (record s { asked = view })

-- only a view above the one entered, and not below the one asked for
abbrev pub entering_refusal : State → (view : ℕ) → Option OrderError
entering_refusal s view = if not (nat_lt s.view view && (nat_le s.asked view && nat_le view most_number)) then Some WrongView else None

-- what is handed over
abbrev pub as_proposals : List (Signed model.PrePrepare) → Log
as_proposals proposals = map (as_message PrePrepare) proposals

abbrev pub greatest_number : Log → ℕ
greatest_number [] = 0
greatest_number (m ∷ ms) = max (header m).number (greatest_number ms)

-- of a checkpoint; 0 where there is none
abbrev pub number_of : Option StableCheckpoint → ℕ
number_of None = 0
number_of (Some c) = c.number

-- the view, before anything is taken in it
abbrev pub opened : State → (view min_s : ℕ) → List (Signed model.PrePrepare) → State
opened s view min_s handed = record s { view = view; asked = view; min_s = min_s; handed = greatest_number (as_proposals handed) }

-- it was checked when it was chosen: what has a free place is taken, and the rest is passed over
abbrev pub taken_over : Keys → State → Signed OrderMessage → Outcome
taken_over keys s m = unless (place_refusal s (header m)) s (accepted keys s m)

-- one after another
abbrev pub all_taken_over : Keys → State → Log → Outcome
all_taken_over keys s [] = quiet s
all_taken_over keys s (m ∷ ms) =
    let first = taken_over keys s m in
    let rest = all_taken_over keys first.now ms in
    record { now = rest.now; sent = first.sent ++ rest.sent }

-- the view begins behind a stable checkpoint, to which the low mark rises first
abbrev pub entered : Keys → State → (view : ℕ) → Option StableCheckpoint → List (Signed model.PrePrepare) → Outcome
entered keys s view stable handed = all_taken_over keys (opened (raised keys s stable) view (number_of stable) handed) (as_proposals handed)
