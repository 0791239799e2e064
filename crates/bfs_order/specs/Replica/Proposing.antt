-- The primary proposes a batch (OSDI 1999 section 4.2).
use Rattle.std.specs.Prelude.{ℕ, ◌+◌, ◌==◌, Bool, ◌&&◌, not, max, List, [], ◌∷◌, Option, Some, None, nat_le, if◌then◌else◌}
use Rattle.sha2.specs.Sha256.{sha256}
use Rattle.bfs_auth.specs.Keys.{Keys}
use Rattle.bfs_votes.specs.Votes.{primary}
use Rattle.bfs_log.specs.Logs.{Log, greatest_proposed}
use Rattle.bfs_messages.specs.Messages as model
use Rattle.bfs_messages.specs.Messages.{Batch}
use Rattle.bfs_messages.specs.Batches.{batch_text}
use Rattle.bfs_messages.specs.declared.signed.Signed.{Signed}
use Rattle.bfs_messages.specs.declared.order_messages.OrderMessage.{OrderMessage}
use Rattle.bfs_messages.specs.declared.order_messages.OrderMessage.TheVariants.{PrePrepare}
use Rattle.bfs_order.specs.Replica.Answers.{own_vote, commits_in}
use Rattle.bfs_messages.specs.Signing.{order_signed_by}
use Rattle.bfs_order.specs.Replica.Outcomes.{Outcome}
use Rattle.bfs_order.specs.Replica.States.{State, known, with_more, with_message}
use Rattle.bfs_order.specs.declared.error.OrderError.{OrderError}
use Rattle.bfs_order.specs.declared.error.OrderError.TheVariants.{OutsideMarks, NotPrimary}
use Rattle.bfs_model.specs.Server.Limits.{log_size, most_number}

-- of the PRE-PREPAREs of the view and of what was handed over, the low mark, and what the view begins behind
abbrev pub greatest_taken : State → ℕ
greatest_taken s = max (greatest_proposed s.view (known s)) (max s.handed (max s.low s.min_s))

abbrev pub next_number : State → ℕ
next_number s = greatest_taken s + 1

-- while no view change is under way
abbrev pub leads : State → Bool
leads s = (s.me == primary s.f s.view) && nat_le s.asked s.view

abbrev pub proposal_refusal : State → Option OrderError
proposal_refusal s =
    if not (leads s) then Some NotPrimary else
    (if not (nat_le (next_number s) (s.low + log_size) && nat_le (next_number s) most_number) then Some OutsideMarks else None)

abbrev pub batch_digest : Batch → List ℕ
batch_digest batch = sha256 (batch_text batch)

abbrev pub own_proposal : State → Batch → model.PrePrepare
own_proposal s batch = record { vote = own_vote s s.view (next_number s) (batch_digest batch); batch = batch }

abbrev pub proposal : Keys → State → Batch → Signed OrderMessage
proposal keys s batch = order_signed_by keys (PrePrepare (own_proposal s batch))

-- where there is no other replica, it is prepared at once
abbrev pub lone_commits : Keys → State → (view number : ℕ) → List ℕ → Log
lone_commits keys s view number digest = if s.f == 0 then commits_in keys s view number digest else []

abbrev pub proposal_commits : Keys → State → Batch → Log
proposal_commits keys s batch = lone_commits keys (with_message s (proposal keys s batch)) s.view (next_number s) (batch_digest batch)

abbrev pub proposed : Keys → State → Batch → Outcome
proposed keys s batch = record {
  now = with_more (with_message s (proposal keys s batch)) (proposal_commits keys s batch);
  sent = proposal keys s batch ∷ proposal_commits keys s batch;
}
