-- The statements that are proved of the definitions: contracts of functions of src/laws.rt, which do nothing.
use Rattle.std.specs.Prelude.{◌≡◌, ◌≤◌, ◌⊎◌, ℕ, Bool, true, List, map, None}
use Rattle.bfs_auth.specs.Keys.{Keys}
use Rattle.bfs_votes.specs.Votes.{SlotsDiffer}
use Rattle.bfs_log.specs.Certificates.{faults}
use Rattle.bfs_log.specs.Headers.{header}
use Rattle.bfs_log.specs.Logs.{headers}
use Rattle.bfs_messages.specs.Messages as model
use Rattle.bfs_messages.specs.declared.signed.Signed.{Signed}
use Rattle.bfs_messages.specs.declared.order_messages.OrderMessage.{OrderMessage}
use Rattle.bfs_order.specs.Laws.Logs.{HasNoLaterView, IsWindowed}
use Rattle.bfs_order.specs.Replica.States.{State}
use Rattle.bfs_order.specs.Replica.Views.{as_proposals, entered, entering_refusal, number_of}
use Rattle.bfs_agreement.specs.Histories.{IsIn, World, FewAreFaulty, IsValidNewView}
use Rattle.bfs_nodes_agree.specs.Orders.Replicas.{TellsWhatIsPrepared, new_view, new_order_replicas}
use Rattle.bfs_view_change.specs.Changes.Choice.{choice}
use Rattle.bfs_view_change.specs.Changes.Making.{change_of}
use Rattle.bfs_view_change.specs.Changes.NewViews.{latest_checkpoint}
use Rattle.bfs_view_change.specs.Changes.ViewChanges.{messages_of, valid_view_change}
use Rattle.bfs_view_change.specs.Inside.Near.{IsNear}
use Rattle.bfs_nodes_agree.specs.Views.Changes.{proposal_of, told_change}
use Rattle.bfs_nodes_agree.specs.Views.Replicas.{IsRightNewView, ViewTurn, after_view_turns, MayTakeViewTurns}

-- the VIEW-CHANGE that is made of an order tells all that is prepared
abbrev pub MadeTellsWhatIsPrepared : Type 0
MadeTellsWhatIsPrepared = (s : State) (view : ℕ) → IsWindowed s → TellsWhatIsPrepared s (told_change (change_of s view))

-- what is chosen from VIEW-CHANGEs that are proved and genuine makes a valid NEW-VIEW, with one PRE-PREPARE for a number
abbrev pub RightNewViewsAreValid : Type 0
RightNewViewsAreValid = (faulty : ℕ → Bool) (w : World) (s : State) (view : ℕ) (changes : List (Signed model.ViewChange)) (handed : List (Signed model.PrePrepare))
    → IsRightNewView faulty w s view changes handed
    → SlotsDiffer (headers (as_proposals handed))
    × IsValidNewView s.f faulty w (new_view view (choice (messages_of changes)).min_s handed (map told_change (messages_of changes)))

-- who enters a view behind a number, with what is handed over
pub record EntersWhole (min_s : ℕ) (handed : List (Signed model.PrePrepare)) (now : State) : Type 0 where
  -- has nothing missing up to that number
  pub behind : min_s ≤ now.low
  -- and all of it in the log, but for what is stable
  pub taken : (m : Signed OrderMessage) → IsIn m (as_proposals handed) → ((header m).number ≤ now.low) ⊎ IsIn m now.log

-- it is valid by these keys, or tells no stable number above a low mark, and certificates of the window above it, as a replica's own does
abbrev pub IsSound : Keys → (low : ℕ) → Signed model.ViewChange → Type 0
IsSound keys low s = (valid_view_change keys s ≡ true) ⊎ (IsNear s.message × (s.message.stable ≤ low))

-- so does each that enters by a NEW-VIEW whose VIEW-CHANGEs are sound, and whose PRE-PREPAREs are what they choose
abbrev pub NothingIsPassedOver : Type 0
NothingIsPassedOver = (keys : Keys) (s : State) (view : ℕ) (changes : List (Signed model.ViewChange)) (handed : List (Signed model.PrePrepare))
    → faults keys ≡ s.f → HasNoLaterView s → entering_refusal s view ≡ None
    → ((change : Signed model.ViewChange) → IsIn change changes → IsSound keys s.low change) → headers (as_proposals handed) ≡ map (proposal_of s.f view) (choice (messages_of changes)).chosen
    → EntersWhole (number_of (latest_checkpoint (messages_of changes))) handed (entered keys s view (latest_checkpoint (messages_of changes)) handed).now

-- over every list of calls and deliveries, any two that execute a batch for a number, in whatever views, execute one digest
abbrev pub ReplicasAgree : Type 0
ReplicasAgree = (f : ℕ) (faulty : ℕ → Bool) (turns : List ViewTurn) → FewAreFaulty f faulty → MayTakeViewTurns faulty (new_order_replicas f) turns
    → (i j : ℕ) (one other : Signed OrderMessage) → IsIn one (after_view_turns (new_order_replicas f) turns i).executed → IsIn other (after_view_turns (new_order_replicas f) turns j).executed
    → (header one).number ≡ (header other).number → (header one).digest ≡ (header other).digest
