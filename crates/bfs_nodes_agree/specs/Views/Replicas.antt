-- Replicas by the calls of their orders, and by the VIEW-CHANGEs and NEW-VIEWs that they make and take (OSDI 1999 section 4.4).
use Rattle.std.specs.Prelude.{◌≡◌, ℕ, ◌+◌, ◌*◌, ◌≤◌, Bool, true, List, [], ◌∷◌, map}
use Rattle.bfs_auth.specs.Keys.{Keys}
use Rattle.bfs_log.specs.Logs.{headers}
use Rattle.bfs_messages.specs.Messages as model
use Rattle.bfs_messages.specs.declared.signed.Signed.{Signed}
use Rattle.bfs_order.specs.Laws.Calls.{Call}
use Rattle.bfs_order.specs.Replica.States.{State}
use Rattle.bfs_order.specs.Replica.Views.{as_proposals}
use Rattle.bfs_agreement.specs.Histories.{IsIn, World}
use Rattle.bfs_nodes_agree.specs.Orders.Replicas as ordered
use Rattle.bfs_nodes_agree.specs.Orders.Replicas.{OrderReplicas, histories, after_order_turn, MayDoOrderDeed}
use Rattle.bfs_view_change.specs.Changes.Choice.{choice}
use Rattle.bfs_view_change.specs.Changes.Making.{change_of}
use Rattle.bfs_view_change.specs.Changes.NewViews.{are_for, latest_checkpoint, senders}
use Rattle.bfs_view_change.specs.Changes.ViewChanges.{messages_of}
use Rattle.bfs_nodes_agree.specs.Views.Changes.{told_change, proposal_of, HasProofs, IsGenuine}

pub data ViewDeed : Type 0 where
  -- a call of its order that neither leaves nor enters a view
  Orders : Call → ViewDeed
  -- a view is asked for: the VIEW-CHANGE is made of the order, and the order leaves
  TimesOut : (view : ℕ) → ViewDeed
  -- a view is entered with the PRE-PREPAREs of a NEW-VIEW that has these VIEW-CHANGEs, of another or its own
  ChangesView : Keys → (view : ℕ) → List (Signed model.ViewChange) → (handed : List (Signed model.PrePrepare)) → ViewDeed

-- what that is to the order
abbrev pub ordered_deed : State → ViewDeed → ordered.OrderDeed
ordered_deed s (Orders call) = ordered.Orders call
ordered_deed s (TimesOut view) = ordered.TimesOut (told_change (change_of s view))
ordered_deed s (ChangesView keys view changes handed) =
    ordered.ChangesView keys view (latest_checkpoint (messages_of changes)) handed (map told_change (messages_of changes))

-- the VIEW-CHANGEs are for the view and of 2f + 1 replicas, are proved and are genuine, and the PRE-PREPAREs are what they choose
pub record IsRightNewView (faulty : ℕ → Bool) (w : World) (s : State) (view : ℕ) (changes : List (Signed model.ViewChange)) (handed : List (Signed model.PrePrepare)) : Type 0 where
  pub of_view : are_for view changes ≡ true
  pub enough : 2 * s.f + 1 ≤ senders s.f changes
  pub proved : (change : model.ViewChange) → IsIn change (messages_of changes) → HasProofs s.f view change
  pub genuine : (change : model.ViewChange) → IsIn change (messages_of changes) → IsGenuine faulty w change
  pub proposals : headers (as_proposals handed) ≡ map (proposal_of s.f view) (choice (messages_of changes)).chosen

abbrev pub MayDoViewDeed : (faulty : ℕ → Bool) → World → State → ViewDeed → Type 0
MayDoViewDeed faulty w s (Orders call) = MayDoOrderDeed faulty w s (ordered.Orders call)
MayDoViewDeed faulty w s (TimesOut view) = Unit {0}
MayDoViewDeed faulty w s (ChangesView keys view changes handed) = IsRightNewView faulty w s view changes handed

-- a deed of one replica
pub record ViewTurn : Type 0 where
  pub who : ℕ
  pub deed : ViewDeed

abbrev pub ordered_turn : OrderReplicas → ViewTurn → ordered.OrderTurn
ordered_turn w turn = record { who = turn.who; deed = ordered_deed (w turn.who).state turn.deed }

abbrev pub after_view_turns : OrderReplicas → List ViewTurn → OrderReplicas
after_view_turns w [] = w
after_view_turns w (turn ∷ turns) = after_view_turns (after_order_turn w (ordered_turn w turn)) turns

-- each deed may be done where it comes
abbrev pub MayTakeViewTurns : (faulty : ℕ → Bool) → OrderReplicas → List ViewTurn → Type 0
MayTakeViewTurns faulty w [] = Unit {0}
MayTakeViewTurns faulty w (turn ∷ turns) =
    MayDoViewDeed faulty (histories w) (w turn.who).state turn.deed × MayTakeViewTurns faulty (after_order_turn w (ordered_turn w turn)) turns
