-- What a node does, and what that is to its order (OSDI 1999 sections 4.2 to 4.4).
use Rattle.std.specs.Prelude.{ℕ, ◌&&◌, List, [], ◌∷◌, Option, Some, None, bytes_eq, if◌then◌else◌}
use Rattle.bfs_model.specs.Server.Tree.{FileSystem, Time}
use Rattle.bfs_checkpoints.specs.Snapshots.{snapshot_of}
use Rattle.bfs_checkpoints.specs.Texts.{node_digest}
use Rattle.bfs_log.specs.Certificates.{StableCheckpoint}
use Rattle.bfs_log.specs.Logs.{Log}
use Rattle.bfs_messages.specs.Messages as model
use Rattle.bfs_codec.specs.Reading.{message_of}
use Rattle.bfs_messages.specs.declared.signed.Signed.{Signed}
use Rattle.bfs_messages.specs.declared.message.Message.{Message}
use Rattle.bfs_messages.specs.declared.message.Message.TheVariants.{Order, ViewChange, NewView}
use Rattle.bfs_order.specs.Laws.Calls as order
use Rattle.bfs_order.specs.Replica.Executing.{next_order}
use Rattle.bfs_order.specs.Replica.Views.{left}
use Rattle.bfs_nodes_agree.specs.Orders.Replicas.{message_in}
use Rattle.bfs_replies.specs.Tables.{Table}
use Rattle.bfs_view_change.specs.Changes.Keeping.{changes_for, with_change}
use Rattle.bfs_nodes_agree.specs.Views.Replicas as turns
use Rattle.bfs_nodes_agree.specs.Views.Replicas.{ViewDeed}
use Rattle.bfs_node.specs.Adopting.{adopted, may_adopt}
use Rattle.bfs_node.specs.Changing.{change_in, new_view_in, change_refusal, leads, leaving_refusal, left_for, may_begin, next_view, own_change, own_new_view, timed_out, timeout_refusal, view_refusal}
use Rattle.bfs_node.specs.Checkpoints.{checkpoint, checkpoint_refusal}
use Rattle.bfs_node.specs.Delivering.{after_requests, bytes_delivered, bytes_refusal, delivered, delivery_refusal, order_in}
use Rattle.bfs_node.specs.Executing.{execution, is_ready}
use Rattle.bfs_node.specs.Forgetting.{without_answered, without_proposed}
use Rattle.bfs_node.specs.Nodes.{Messages, Node, Outcome}
use Rattle.bfs_node.specs.Offering.{offer_refusal, with_offered}
use Rattle.bfs_node.specs.Proposing.{pending_batch, proposal_refusal, proposed}
use Rattle.bfs_node.specs.Settling.{settling, settling_refusal}
use Rattle.bfs_node.specs.declared.error.NodeError.{NodeError}

-- a call of a node
pub data NodeStep : Type 0 where
  -- a message comes as bytes, or as it was read from them
  Delivers : (bytes : List ℕ) → NodeStep
  Takes : Signed Message → NodeStep
  -- the REQUESTs among messages come, one after another
  TakesRequests : Messages → NodeStep
  -- a REQUEST comes, which waits only if it is new
  TakesOffered : Signed model.Request → NodeStep
  Proposes : Time → NodeStep
  Executes : NodeStep
  -- memory runs out while a batch is executed
  Fails : NodeStep
  Checkpoints : NodeStep
  TimesOut : NodeStep
  -- it leaves for that view
  LeavesFor : (view : ℕ) → NodeStep
  -- what was executed waits no longer, or what it has proposed in its view
  ForgetsAnswered : NodeStep
  ForgetsProposed : NodeStep
  -- with the file system and the table that a text spells
  Adopts : (certificate : StableCheckpoint) → FileSystem → Table → NodeStep
  -- by what another one shows, it settles a checkpoint that it has executed
  Settles : (certificate : StableCheckpoint) → NodeStep

-- What it leaves ------------------------------------------------------------------------------------------------------------

abbrev pub still : Node → Outcome
still node = record { now = node; sent = [] }

-- a refused call changes nothing, and nothing is sent
abbrev pub unless : Option NodeError → Node → Outcome → Outcome
unless None node outcome = outcome
unless (Some error) node outcome = still node

abbrev pub or_still : Node → Option Outcome → Outcome
or_still node None = still node
or_still node (Some outcome) = outcome

-- of a file system that has failed nothing is executed
abbrev pub after_execution : Node → Option (Option Outcome) → Outcome
after_execution node None = still node
after_execution node (Some next) = or_still node next

abbrev pub outcome : Node → NodeStep → Outcome
outcome node (Delivers bytes) = unless (bytes_refusal node (message_of bytes)) node (bytes_delivered node (message_of bytes))
outcome node (Takes signed) = unless (delivery_refusal node signed) node (delivered node signed)
outcome node (TakesRequests messages) = still (after_requests node messages)
outcome node (TakesOffered request) = unless (offer_refusal node request) node (with_offered node request)
outcome node (Proposes time) = unless (proposal_refusal node) node (proposed node time)
outcome node Executes = after_execution node (execution node)
outcome node Fails = still (record node { files = None })
outcome node Checkpoints = unless (checkpoint_refusal node) node (or_still node (checkpoint node))
outcome node TimesOut = unless (timeout_refusal node) node (timed_out node)
outcome node (LeavesFor view) = unless (leaving_refusal node view) node (left_for node view)
outcome node ForgetsAnswered = still (without_answered node)
outcome node ForgetsProposed = still (without_proposed node)
outcome node (Adopts certificate files table) =
    if may_adopt node certificate && bytes_eq (node_digest files table) certificate.digest then still (adopted node certificate files table) else still node
outcome node (Settles certificate) = unless (settling_refusal node certificate) node (still (settling node certificate))

-- the PRE-PREPARE of the batch that it executes
abbrev pub executed_by : Node → NodeStep → Log
executed_by node Executes = if is_ready node then message_in (next_order node.order) else []
executed_by node _ = []

-- What that is to its order ---------------------------------------------------------------------------------------------------

abbrev pub where_taken : {A : Type 0} → Option NodeError → List A → List A
where_taken None items = items
where_taken (Some error) items = []

-- the view that it begins, if it does
abbrev pub begun_deeds : Node → List ViewDeed
begun_deeds node =
    if may_begin node
    then turns.ChangesView node.keys node.order.asked (changes_for node.order.asked node.changes) (own_new_view node).proposals ∷ []
    else []

abbrev pub change_deeds : Node → Signed model.ViewChange → List ViewDeed
change_deeds node s = if leads node s.message.view then begun_deeds (record node { changes = with_change node.changes s }) else []

abbrev pub message_deeds : Node → Signed Message → Message → List ViewDeed
message_deeds node signed (Order message) = turns.Orders (order.Takes node.keys (order_in signed message)) ∷ []
message_deeds node signed (ViewChange change) = where_taken (change_refusal node (change_in signed change)) (change_deeds node (change_in signed change))
message_deeds node signed (NewView new) = where_taken (view_refusal node (new_view_in signed new)) (turns.ChangesView node.keys new.view new.changes new.proposals ∷ [])
message_deeds node signed _ = []

abbrev pub bytes_deeds : Node → Option (Signed Message) → List ViewDeed
bytes_deeds node None = []
bytes_deeds node (Some signed) = message_deeds node signed signed.message

abbrev pub checkpoint_deeds : Node → Option FileSystem → List ViewDeed
checkpoint_deeds node None = []
checkpoint_deeds node (Some files) = turns.Orders (order.Checkpoints node.keys node.order.last (snapshot_of files node.table).digest) ∷ []

-- it leaves, and then its own VIEW-CHANGE comes to it
abbrev pub leaving_deeds : Node → (view : ℕ) → List ViewDeed
leaving_deeds node view = turns.TimesOut view ∷ change_deeds (record node { order = (left node.order view).now }) (own_change node view)

abbrev pub deeds_for : Node → (view : ℕ) → List ViewDeed
deeds_for node view = where_taken (leaving_refusal node view) (leaving_deeds node view)

abbrev pub deeds_of : Node → NodeStep → List ViewDeed
deeds_of node (Delivers bytes) = bytes_deeds node (message_of bytes)
deeds_of node (Takes signed) = message_deeds node signed signed.message
deeds_of node (Proposes time) = turns.Orders (order.Proposes node.keys (pending_batch node time)) ∷ []
deeds_of node Executes = if is_ready node then turns.Orders order.Executes ∷ [] else []
deeds_of node Checkpoints = where_taken (checkpoint_refusal node) (checkpoint_deeds node node.files)
deeds_of node TimesOut = deeds_for node (next_view node.order)
deeds_of node (LeavesFor view) = deeds_for node view
deeds_of node (Adopts certificate files table) =
    if may_adopt node certificate && bytes_eq (node_digest files table) certificate.digest then turns.Orders (order.Installs node.keys certificate) ∷ [] else []
deeds_of node (Settles certificate) = where_taken (settling_refusal node certificate) (turns.Orders (order.Installs node.keys certificate) ∷ [])
deeds_of node _ = []
