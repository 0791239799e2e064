-- The statements that are proved of the definitions: contracts of functions of src/laws.rt, which do nothing.
use Rattle.std.specs.Prelude.{◌≡◌, ◌⊎◌, ℕ, zero, suc, Bool, true, false, List, Some, None}
use Rattle.bfs_auth.specs.Keys.{Keys}
use Rattle.bfs_model.specs.Server.Tree.{FileSystem}
use Rattle.bfs_log.specs.Certificates.{faults}
use Rattle.bfs_log.specs.Logs.{batch_in}
use Rattle.bfs_messages.specs.Limits.{FitsNewView}
use Rattle.bfs_messages.specs.Messages as model
use Rattle.bfs_messages.specs.Messages.{Batch}
use Rattle.bfs_messages.specs.declared.signed.Signed.{Signed}
use Rattle.bfs_messages.specs.Signing.{as_message}
use Rattle.bfs_messages.specs.declared.message.Message.{Message}
use Rattle.bfs_messages.specs.declared.message.Message.TheVariants.{ViewChange}
use Rattle.bfs_messages.specs.declared.order_messages.OrderMessage.{OrderMessage}
use Rattle.bfs_node.specs.Changing.{view_refusal, with_new_view}
use Rattle.bfs_node.specs.Nodes.{Node}
use Rattle.bfs_order.specs.Laws.Logs.{HasNoLaterView}
use Rattle.bfs_order.specs.Replica.Proposing.{batch_digest}
use Rattle.bfs_order.specs.Replica.Views.{number_of}
use Rattle.bfs_outcome.specs.Outcome.{outcome}
use Rattle.bfs_replies.specs.Tables.{Table}
use Rattle.bfs_agreement.specs.Histories.{IsIn, FewAreFaulty}
use Rattle.bfs_nodes_agree.specs.Orders.Replicas as ordered
use Rattle.bfs_view_change.specs.Changes.Keeping.{changes_for}
use Rattle.bfs_view_change.specs.Changes.NewViews.{latest_checkpoint}
use Rattle.bfs_view_change.specs.Changes.ViewChanges.{messages_of, valid_view_change}
use Rattle.bfs_nodes_agree.specs.Views.Laws.{EntersWhole}
use Rattle.bfs_nodes_agree.specs.Views.Replicas as turns
use Rattle.bfs_nodes_agree.specs.Nodes.Premises.{AreAuthentic, AreFair, AreSame, AreShared, Comes, IsAny, IsWhollyFair, StatesDontCollide, standing_digest}
use Rattle.bfs_nodes_agree.specs.Nodes.Replicas.{Beginning, Keyring, NodeReplica, NodeReplicas, Standing, NodeTurn, new_node_replicas, after_node_turns, ordered_turns}
use Rattle.bfs_nodes_agree.specs.Nodes.Steps.{NodeStep, outcome as result}

-- Nodes and their orders ----------------------------------------------------------------------------------------------------

-- the order knows what the node's order knows, and has executed what the node has
pub record Tracks (r : NodeReplica) (o : ordered.OrderReplica) : Type 0 where
  pub state : o.state ≡ r.node.order
  pub executed : o.executed ≡ r.executed

-- whatever nodes do is what turns of their orders do
abbrev pub StepsAreTurns : Type 0
StepsAreTurns = (f : ℕ) (keys : Keyring) (start : Beginning) (steps : List NodeTurn) (i : ℕ)
    → Tracks (after_node_turns (new_node_replicas f keys start) steps i) (turns.after_view_turns (ordered.new_order_replicas f) (ordered_turns (new_node_replicas f keys start) steps) i)

-- where what passes is authentic these turns may be taken: each NEW-VIEW by which a node enters a view is right, and so is each that it begins
abbrev pub TurnsMayBeTaken : Type 0
TurnsMayBeTaken = (f : ℕ) (keys : Keyring) (start : Beginning) (faulty : ℕ → Bool) (steps : List NodeTurn) → AreShared f keys → AreAuthentic faulty (new_node_replicas f keys start) steps
    → turns.MayTakeViewTurns faulty (ordered.new_order_replicas f) (ordered_turns (new_node_replicas f keys start) steps)

-- a node that takes a NEW-VIEW enters its view with all that it hands over, and its low mark is not below what the view begins behind
abbrev pub NewViewsAreTakenWhole : Type 0
NewViewsAreTakenWhole = (node : Node) (s : Signed model.NewView) → faults node.keys ≡ node.order.f → HasNoLaterView node.order
    → FitsNewView s.message → view_refusal node s ≡ None
    → EntersWhole (number_of (latest_checkpoint (messages_of s.message.changes))) s.message.proposals (with_new_view node s).now.order

-- it has so entered its view by the NEW-VIEW that it keeps
pub record HasEnteredWhole (now : Node) : Type 0 where
  pub new : Signed model.NewView
  pub kept : now.new_view ≡ Some new
  pub of_view : new.message.view ≡ now.order.view
  pub whole : EntersWhole (number_of (latest_checkpoint (messages_of new.message.changes))) new.message.proposals now.order

-- so does a node by each step by which it enters a view, of another or its own, where it has come to by whatever steps
abbrev pub ViewsAreEnteredWhole : Type 0
ViewsAreEnteredWhole = (f : ℕ) (keys : Keyring) (start : Beginning) (steps : List NodeTurn) (i : ℕ) (step : NodeStep) → AreShared f keys → Comes IsAny step
    → let node = (after_node_turns (new_node_replicas f keys start) steps i).node in
    ((result node step).now.order.view ≡ node.order.view) ⊎ HasEnteredWhole (result node step).now

-- each VIEW-CHANGE that it keeps for a view is valid by its keys, or is its own, which it has sent
abbrev pub WhatIsKeptIsValid : Type 0
WhatIsKeptIsValid = (f : ℕ) (keys : Keyring) (start : Beginning) (steps : List NodeTurn) (i view : ℕ) (s : Signed model.ViewChange) → AreShared f keys
    → let r = after_node_turns (new_node_replicas f keys start) steps i in
    IsIn s (changes_for view r.node.changes) → (valid_view_change (keys i) s ≡ true) ⊎ IsIn (as_message ViewChange s) r.sent

-- Agreement -----------------------------------------------------------------------------------------------------------------

-- a replica has executed a batch as a number
abbrev pub Executed : NodeReplica → (number : ℕ) → Batch → Type 0
Executed r number batch = (m : Signed OrderMessage) × IsIn m r.executed × (batch_in m.message ≡ Some (record { number = number; batch = batch }))

-- no two batches that correct replicas have executed as one number have one digest
abbrev pub BatchesDontCollide : (faulty : ℕ → Bool) → NodeReplicas → Type 0
BatchesDontCollide faulty w = (i j number : ℕ) (batch other : Batch) → faulty i ≡ false → faulty j ≡ false
    → Executed (w i) number batch → Executed (w j) number other → batch_digest batch ≡ batch_digest other → batch ≡ other

-- the state after batches that correct replicas executed as numbers 1 to n, behind the one in which all began
abbrev pub ComesOfBatches : Beginning → (faulty : ℕ → Bool) → NodeReplicas → (number : ℕ) → FileSystem → Table → Type 0
ComesOfBatches start faulty w zero files table = (files ≡ start.files) × (table ≡ start.table)
ComesOfBatches start faulty w (suc number) files table = (before : FileSystem) × (last : Table) × ComesOfBatches start faulty w number before last
    × (k : ℕ) × (faulty k ≡ false) × (batch : Batch) × Executed (w k) (suc number) batch
    × (files ≡ (outcome before last batch).files) × (table ≡ (outcome before last batch).table)

-- any two correct replicas that execute a batch as a number, in whatever views, execute the same one; and any two that reach a number, by
-- executing or by adopting, have the same file system and table there, and the same digest, which come of the batches up to it
pub record Agree (start : Beginning) (faulty : ℕ → Bool) (w : NodeReplicas) : Type 0 where
  pub batches : (i j number : ℕ) (batch other : Batch) → faulty i ≡ false → faulty j ≡ false → Executed (w i) number batch → Executed (w j) number other → batch ≡ other
  pub states : (i j : ℕ) (s t : Standing) → faulty i ≡ false → faulty j ≡ false → IsIn s (w i).reached → IsIn t (w j).reached → s.number ≡ t.number
      → AreSame s t × (standing_digest s ≡ standing_digest t)
  pub comes : (i : ℕ) (s : Standing) → faulty i ≡ false → IsIn s (w i).reached → ComesOfBatches start faulty w s.number s.files s.table

-- whatever keys they have and whatever state they begin with, over every list of calls of nodes and deliveries of bytes
abbrev pub NodesAgree : Type 0
NodesAgree = (f : ℕ) (keys : Keyring) (start : Beginning) (faulty : ℕ → Bool) (steps : List NodeTurn)
    → AreShared f keys
    → FewAreFaulty f faulty
    → AreAuthentic faulty (new_node_replicas f keys start) steps
    → BatchesDontCollide faulty (after_node_turns (new_node_replicas f keys start) steps)
    → StatesDontCollide faulty (after_node_turns (new_node_replicas f keys start) steps)
    → Agree start faulty (after_node_turns (new_node_replicas f keys start) steps)

-- What nodes are given --------------------------------------------------------------------------------------------------------

-- what a correct replica gave to be sent may be given to any node, with all that is within it
abbrev pub WhatIsSentIsFair : Type 0
WhatIsSentIsFair = (faulty : ℕ → Bool) (w : NodeReplicas) (keys : Keys) (j : ℕ) (m : Signed Message) → faulty j ≡ false → IsIn m (w j).sent → IsWhollyFair faulty w keys m

-- a run in which nodes are given only what was sent, by whomever it was passed on, is authentic
abbrev pub FairIsAuthentic : Type 0
FairIsAuthentic = (f : ℕ) (keys : Keyring) (start : Beginning) (faulty : ℕ → Bool) (steps : List NodeTurn) → AreShared f keys
    → AreFair faulty (new_node_replicas f keys start) steps → AreAuthentic faulty (new_node_replicas f keys start) steps
