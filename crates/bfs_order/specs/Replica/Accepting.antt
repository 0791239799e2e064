-- A message comes (OSDI 1999 sections 4.2 and 4.3).
use Rattle.std.specs.Prelude.{◌==◌, Bool, ◌&&◌, if◌then◌else◌}
use Rattle.bfs_auth.specs.Keys.{Keys}
use Rattle.bfs_votes.specs.Votes.{Header, is_stable}
use Rattle.bfs_log.specs.Headers.{header}
use Rattle.bfs_log.specs.Logs.{Log, kept_after}
use Rattle.bfs_messages.specs.declared.signed.Signed.{Signed}
use Rattle.bfs_messages.specs.declared.order_messages.OrderMessage.{OrderMessage}
use Rattle.bfs_order.specs.Replica.Answers.{answers_in}
use Rattle.bfs_order.specs.Replica.Outcomes.{Outcome, unless}
use Rattle.bfs_order.specs.Replica.Refusals.{refusal}
use Rattle.bfs_order.specs.Replica.States.{State, known, with_more, with_message}
use Rattle.bfs_votes.specs.Tags.{checkpoint_tag}

-- a CHECKPOINT with which enough replicas tell one digest
abbrev pub makes_stable : State → Header → Bool
makes_stable s h = (h.tag == checkpoint_tag) && is_stable s.f (known s) h.number h.digest

-- the low mark rises to it, and what stands up to it goes, but for the CHECKPOINTs that tell it
abbrev pub settled : State → Header → State
settled s h = record s {
  low = (if makes_stable s h then h.number else s.low);
  log = (if makes_stable s h then kept_after h.number h.digest s.log else s.log);
}

abbrev pub answers : Keys → State → Signed OrderMessage → Log
answers keys s m = answers_in keys (with_message s m) (header m)

-- it stands in the log, with the answers to it
abbrev pub accepted : Keys → State → Signed OrderMessage → Outcome
accepted keys s m = record { now = settled (with_more (with_message s m) (answers keys s m)) (header m); sent = answers keys s m }

abbrev pub on_message : Keys → State → Signed OrderMessage → Outcome
on_message keys s m = unless (refusal keys s m) s (accepted keys s m)
