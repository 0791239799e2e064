-- What a replica executes is committed (OSDI 1999 section 4.2).
use Rattle.std.specs.Prelude.{◌≡◌, ◌≤◌, ◌+◌, ◌*◌, Option, Some, None}
use Rattle.std.specs.List.{Contains}
use Rattle.bfs_votes.specs.Votes.{Told, backups, primary, tellers}
use Rattle.bfs_log.specs.Batches.{Committed}
use Rattle.bfs_log.specs.Headers.{header}
use Rattle.bfs_log.specs.Logs.{batch_in}
use Rattle.bfs_messages.specs.declared.signed.Signed.{Signed}
use Rattle.bfs_messages.specs.declared.order_messages.OrderMessage.{OrderMessage}
use Rattle.bfs_order.specs.Laws.Calls.{Executes, outcome}
use Rattle.bfs_order.specs.Replica.Executing.{executed, next_committed}
use Rattle.bfs_order.specs.Replica.States.{State, known}
use Rattle.bfs_votes.specs.Tags.{commit_tag, pre_prepare_tag}

-- it is the PRE-PREPARE of that batch by the primary of the view entered
pub record IsProposalOf (s : State) (next : Committed) (m : Signed OrderMessage) : Type 0 where
  pub tag : (header m).tag ≡ pre_prepare_tag
  pub sender : (header m).sender ≡ primary s.f s.view
  pub view : (header m).view ≡ s.view
  pub number : (header m).number ≡ next.number
  pub batch : batch_in m.message ≡ Some next

-- the log has that PRE-PREPARE, PREPAREs of 2f different backups and COMMITs of 2f + 1 different replicas, its own among them, all of
-- one view, number and digest
pub record HasItsCertificate (s : State) (next : Committed) : Type 0 where
  pub follows : next.number ≡ s.last + 1
  pub proposal : Signed OrderMessage
  pub in_log : Contains s.log proposal
  pub proposes : IsProposalOf s next proposal
  pub prepares : 2 * s.f ≤ backups s.f (known s) s.view next.number (header proposal).digest
  pub commits : 2 * s.f + 1 ≤ tellers s.f (known s) commit_tag s.view next.number (header proposal).digest
  pub own : Told (known s) commit_tag s.me s.view next.number (header proposal).digest

-- the next batch has its certificate
abbrev pub NextHasItsCertificate : Type 0
NextHasItsCertificate = (s : State) (next : Committed) → next_committed s ≡ Some next → HasItsCertificate s next

abbrev pub going_on : State → Option Committed → State
going_on s None = s
going_on s (Some next) = (executed s next.number).now

-- and is what a replica executes: nothing where there is none
abbrev pub OnlyTheNextIsExecuted : Type 0
OnlyTheNextIsExecuted = (s : State) → (outcome s Executes).now ≡ going_on s (next_committed s)
