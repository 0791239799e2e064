-- Batches are executed by rising numbers (OSDI 1999 section 4.2).
use Rattle.std.specs.Prelude.{ℕ, ◌+◌, Option, Some, None, if◌then◌else◌}
use Rattle.std.specs.List.{find}
use Rattle.bfs_votes.specs.Votes.{is_slot, primary, committed}
use Rattle.bfs_log.specs.Batches.{Committed}
use Rattle.bfs_log.specs.Headers.{header}
use Rattle.bfs_log.specs.Logs.{batch_in}
use Rattle.bfs_messages.specs.declared.signed.Signed.{Signed}
use Rattle.bfs_messages.specs.declared.order_messages.OrderMessage.{OrderMessage}
use Rattle.bfs_order.specs.Replica.Outcomes.{Outcome, quiet}
use Rattle.bfs_order.specs.Replica.States.{State, known}
use Rattle.bfs_votes.specs.Tags.{pre_prepare_tag}

-- the PRE-PREPARE of the number after the last executed, in the view entered
abbrev pub next_proposal : State → Option (Signed OrderMessage)
next_proposal s = find (λ m. is_slot pre_prepare_tag (primary s.f s.view) s.view (s.last + 1) (header m)) s.log

abbrev pub where_committed : State → Option (Signed OrderMessage) → Option (Signed OrderMessage)
where_committed s None = None
where_committed s (Some m) = if committed s.f s.me (known s) s.view (s.last + 1) (header m).digest then Some m else None

abbrev pub next_order : State → Option (Signed OrderMessage)
next_order s = where_committed s (next_proposal s)

abbrev pub batch_of : Option (Signed OrderMessage) → Option Committed
batch_of None = None
batch_of (Some m) = batch_in m.message

-- the batch that may be executed next
abbrev pub next_committed : State → Option Committed
next_committed s = batch_of (next_order s)

abbrev pub executed : State → (number : ℕ) → Outcome
executed s number = quiet (record s { last = number })
