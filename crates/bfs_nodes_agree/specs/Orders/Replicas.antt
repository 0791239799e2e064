-- Replicas by the calls of their orders, and what of these has been sent and executed (OSDI 1999 sections 4.2 and 4.4).
use Rattle.std.specs.Prelude.{◌≡◌, ℕ, ◌<◌, ◌≤◌, ◌==◌, max, Bool, true, List, [], ◌∷◌, ◌++◌, Option, Some, None, if◌then◌else◌}
use Rattle.bfs_auth.specs.Keys.{Keys}
use Rattle.bfs_votes.specs.Votes.{SlotsDiffer, primary, prepared}
use Rattle.bfs_log.specs.Certificates.{StableCheckpoint}
use Rattle.bfs_log.specs.Headers.{header}
use Rattle.bfs_log.specs.Logs.{Log, headers}
use Rattle.bfs_messages.specs.Messages as model
use Rattle.bfs_messages.specs.declared.signed.Signed.{Signed}
use Rattle.bfs_messages.specs.declared.order_messages.OrderMessage.{OrderMessage}
use Rattle.bfs_order.specs.declared.error.OrderError.{OrderError}
use Rattle.bfs_order.specs.Replica.Executing.{next_order}
use Rattle.bfs_order.specs.Replica.Refusals.{refusal}
use Rattle.bfs_order.specs.Replica.States.{State, fresh, known}
use Rattle.bfs_order.specs.Replica.Views.{leaving_refusal, entering_refusal, as_proposals, greatest_number, number_of}
use Rattle.bfs_order.specs.Laws.Calls.{Call, Takes, Proposes, Executes, Leaves, Enters, outcome}
use Rattle.bfs_agreement.specs.Histories.{IsIn, Certificate, ViewChange, NewView, World, WasSent, IsValidNewView}
use Rattle.bfs_agreement.specs.Moves.{new_history}
use Rattle.bfs_votes.specs.Tags.{checkpoint_tag}

pub record OrderReplica : Type 0 where
  -- what it knows of the order
  pub state : State
  -- PRE-PREPAREs, PREPAREs and COMMITs that its calls gave to be sent
  pub sent : Log
  -- PRE-PREPAREs in NEW-VIEWs that it has sent
  pub offers : Log
  -- VIEW-CHANGEs that it has sent
  pub changes : List ViewChange
  -- PRE-PREPAREs of the batches that it has executed
  pub executed : Log

-- What a replica does -----------------------------------------------------------------------------------------------------

pub data OrderDeed : Type 0 where
  -- a call of its order that neither leaves nor enters a view
  Orders : Call → OrderDeed
  -- the view is left, and in the same step the VIEW-CHANGE is sent
  TimesOut : ViewChange → OrderDeed
  -- a view is entered by a NEW-VIEW with these VIEW-CHANGEs, from which the checkpoint that it begins behind and the PRE-PREPAREs were chosen
  ChangesView : Keys → (view : ℕ) → (stable : Option StableCheckpoint) → (handed : List (Signed model.PrePrepare)) → List ViewChange → OrderDeed

-- the call of the order in it
abbrev pub call_of : OrderDeed → Call
call_of (Orders call) = call
call_of (TimesOut change) = Leaves change.view
call_of (ChangesView keys view stable handed changes) = Enters keys view stable handed

-- what a call that may be refused gives
abbrev pub where_taken : {A : Type 0} → Option OrderError → List A → List A
where_taken None items = items
where_taken (Some error) items = []

-- a CHECKPOINT is no vote on a batch
abbrev pub votes_by : State → Call → Log
votes_by s (Takes keys m) = (outcome s (Takes keys m)).sent
votes_by s (Proposes keys batch) = (outcome s (Proposes keys batch)).sent
votes_by s (Enters keys view stable handed) = (outcome s (Enters keys view stable handed)).sent
votes_by s _ = []

-- the primary enters by its own NEW-VIEW
abbrev pub offers_by : State → OrderDeed → Log
offers_by s (ChangesView keys view stable handed changes) = where_taken (entering_refusal s view) (if s.me == primary s.f view then as_proposals handed else [])
offers_by s _ = []

abbrev pub changes_by : State → OrderDeed → List ViewChange
changes_by s (TimesOut change) = where_taken (leaving_refusal s change.view) (change ∷ [])
changes_by s _ = []

abbrev pub message_in : Option (Signed OrderMessage) → Log
message_in None = []
message_in (Some m) = m ∷ []

abbrev pub executed_by : State → Call → Log
executed_by s Executes = message_in (next_order s)
executed_by s _ = []

abbrev pub after_order_deed : OrderReplica → OrderDeed → OrderReplica
after_order_deed r deed = record {
  state = (outcome r.state (call_of deed)).now;
  sent = votes_by r.state (call_of deed) ++ r.sent;
  offers = offers_by r.state deed ++ r.offers;
  changes = changes_by r.state deed ++ r.changes;
  executed = executed_by r.state (call_of deed) ++ r.executed;
}

-- When it may be done -----------------------------------------------------------------------------------------------------

-- the stable number is the low mark, and there is a certificate for all that is prepared above it (OSDI 1999 section 4.4)
pub record TellsWhatIsPrepared (s : State) (change : ViewChange) : Type 0 where
  pub stable : change.stable ≡ s.low
  pub all : (view number : ℕ) (digest : List ℕ) → prepared s.f s.me (known s) view number digest ≡ true → s.low < number
      → (c : Certificate) × IsIn c change.certificates × (c.proposal.number ≡ number) × (view ≤ c.proposal.view)

-- by headers: the greatest number is that of the PRE-PREPAREs
abbrev pub new_view : (view min_s : ℕ) → (handed : List (Signed model.PrePrepare)) → List ViewChange → NewView
new_view view min_s handed changes =
    record { view = view; min_s = min_s; top = max min_s (greatest_number (as_proposals handed)); proposals = headers (as_proposals handed); changes = changes }

-- a message that passes under a correct sender's name was sent by it; a VIEW-CHANGE tells what is prepared; a NEW-VIEW is valid to who
-- enters by it, and has one PRE-PREPARE for a number
abbrev pub MayDoOrderDeed : (faulty : ℕ → Bool) → World → State → OrderDeed → Type 0
MayDoOrderDeed faulty w s (Orders (Takes keys m)) =
    refusal keys s m ≡ None → (header m).tag < checkpoint_tag → WasSent faulty w (header m).tag (header m).sender (header m).view (header m).number (header m).digest
MayDoOrderDeed faulty w s (Orders (Leaves view)) = ⊥
MayDoOrderDeed faulty w s (Orders (Enters keys view stable handed)) = ⊥
MayDoOrderDeed faulty w s (Orders call) = Unit {0}
MayDoOrderDeed faulty w s (TimesOut change) = TellsWhatIsPrepared s change
MayDoOrderDeed faulty w s (ChangesView keys view stable handed changes) =
    SlotsDiffer (headers (as_proposals handed)) × IsValidNewView s.f faulty w (new_view view (number_of stable) handed changes)

-- Replicas in a world -----------------------------------------------------------------------------------------------------

-- each by its number
abbrev pub OrderReplicas : Type 0
OrderReplicas = ℕ → OrderReplica

-- what each has sent, by headers
abbrev pub histories : OrderReplicas → World
histories w = λ k. record new_history { sent = headers (w k).sent; offers = headers (w k).offers; changes = (w k).changes }

abbrev pub new_order_replicas : (f : ℕ) → OrderReplicas
new_order_replicas f = λ k. record { state = fresh f k; sent = []; offers = []; changes = []; executed = [] }

abbrev pub with_replica : OrderReplicas → ℕ → OrderReplica → OrderReplicas
with_replica w i r = λ j. if j == i then r else w j

-- a deed of one replica
pub record OrderTurn : Type 0 where
  pub who : ℕ
  pub deed : OrderDeed

abbrev pub after_order_turn : OrderReplicas → OrderTurn → OrderReplicas
after_order_turn w turn = with_replica w turn.who (after_order_deed (w turn.who) turn.deed)

abbrev pub after_order_turns : OrderReplicas → List OrderTurn → OrderReplicas
after_order_turns w [] = w
after_order_turns w (turn ∷ turns) = after_order_turns (after_order_turn w turn) turns

-- each deed may be done where it comes
abbrev pub MayTakeOrderTurns : (faulty : ℕ → Bool) → OrderReplicas → List OrderTurn → Type 0
MayTakeOrderTurns faulty w [] = Unit {0}
MayTakeOrderTurns faulty w (turn ∷ turns) = MayDoOrderDeed faulty (histories w) (w turn.who).state turn.deed × MayTakeOrderTurns faulty (after_order_turn w turn) turns
