-- What a step of a node is to its order is no proposal, but where the node proposes.
use Rattle.std.proofs.Common.{ℕ, Bool, true, false, cond, List, [], ◌∷◌, Option, Some, None}
use Rattle.std.specs.Prelude.{◌&&◌, bytes_eq}
use Rattle.bfs_model.specs.Server.Tree.{FileSystem}
use Rattle.bfs_checkpoints.specs.Texts.{node_digest}
use Rattle.bfs_messages.specs.Messages as model
use Rattle.bfs_codec.specs.Reading.{message_of}
use Rattle.bfs_messages.specs.declared.signed.Signed.{Signed}
use Rattle.bfs_messages.specs.declared.message.Message.{Message}
use Rattle.bfs_messages.specs.declared.message.Message.TheVariants.{Request, Order, ViewChange, NewView, Reply}
use Rattle.bfs_order.specs.Laws.Calls as order
use Rattle.bfs_order.specs.Replica.States.{State}
use Rattle.bfs_order.specs.Replica.Views.{left}
use Rattle.bfs_node.specs.Adopting.{may_adopt}
use Rattle.bfs_node.specs.Changing.{change_in, new_view_in, change_refusal, leads, leaving_refusal, may_begin, next_view, own_change, own_new_view, view_refusal}
use Rattle.bfs_node.specs.Checkpoints.{checkpoint_refusal}
use Rattle.bfs_node.specs.Executing.{is_ready}
use Rattle.bfs_node.specs.Nodes.{Node}
use Rattle.bfs_node.specs.Settling.{settling_refusal}
use Rattle.bfs_node.specs.declared.error.NodeError.{NodeError}
use Rattle.bfs_view_change.specs.Changes.Keeping.{changes_for, with_change}
use Rattle.bfs_nodes_agree.specs.Views.Replicas.{ViewDeed, Orders, TimesOut, ChangesView}
use Rattle.bfs_nodes_agree.specs.Nodes.Steps as steps
use Rattle.bfs_nodes_agree.specs.Nodes.Steps.{NodeStep, Delivers, Takes, TakesRequests, TakesOffered, Proposes, Executes, Fails, Checkpoints, LeavesFor, ForgetsAnswered, ForgetsProposed, Adopts, Settles, where_taken, begun_deeds, change_deeds, message_deeds, bytes_deeds, checkpoint_deeds, leaving_deeds, deeds_of}
use Rattle.bfs_nodes_agree.proofs.Public.{called}
use Rattle.bfs_nodes_progress.proofs.Speaking.{IsNoProposal}

abbrev pub IsSilent : ViewDeed → Type 0
IsSilent (Orders call) = IsNoProposal call
IsSilent deed = Unit {0}

abbrev pub AreSilent : List ViewDeed → Type 0
AreSilent [] = Unit {0}
AreSilent (deed ∷ deeds) = IsSilent deed × AreSilent deeds

pub silent_call : (s : State) (deed : ViewDeed) → IsSilent deed → IsNoProposal (called s deed)
silent_call s (Orders call) silent = silent
silent_call s (TimesOut view) silent = tt
silent_call s (ChangesView keys view changes handed) silent = tt

if_silent : (b : Bool) (deeds : List ViewDeed) → AreSilent deeds → AreSilent (cond b deeds [])
if_silent true deeds silent = silent
if_silent false deeds silent = tt

taken_silent : (r : Option NodeError) (deeds : List ViewDeed) → AreSilent deeds → AreSilent (where_taken r deeds)
taken_silent None deeds silent = silent
taken_silent (Some refused) deeds silent = tt

begun_silent : (node : Node) → AreSilent (begun_deeds node)
begun_silent node = if_silent (may_begin node) (ChangesView node.keys node.order.asked (changes_for node.order.asked node.changes) (own_new_view node).proposals ∷ []) (tt, tt)

change_silent : (node : Node) (s : Signed model.ViewChange) → AreSilent (change_deeds node s)
change_silent node s =
    let there = record node { changes = with_change node.changes s } in
    if_silent (leads node s.message.view) (begun_deeds there) (begun_silent there)

message_silent : (node : Node) (signed : Signed Message) (m : Message) → AreSilent (message_deeds node signed m)
message_silent node signed (Request request) = tt
message_silent node signed (Order message) = (tt, tt)
message_silent node signed (ViewChange change) = taken_silent (change_refusal node (change_in signed change)) (change_deeds node (change_in signed change)) (change_silent node (change_in signed change))
message_silent node signed (NewView new) = taken_silent (view_refusal node (new_view_in signed new)) (ChangesView node.keys new.view new.changes new.proposals ∷ []) (tt, tt)
message_silent node signed (Reply reply) = tt

bytes_silent : (node : Node) (o : Option (Signed Message)) → AreSilent (bytes_deeds node o)
bytes_silent node None = tt
bytes_silent node (Some signed) = message_silent node signed signed.message

told_silent : (node : Node) (o : Option FileSystem) → AreSilent (checkpoint_deeds node o)
told_silent node None = tt
told_silent node (Some files) = (tt, tt)

leaving_silent : (node : Node) (view : ℕ) → AreSilent (where_taken (leaving_refusal node view) (leaving_deeds node view))
leaving_silent node view =
    taken_silent (leaving_refusal node view) (leaving_deeds node view) (tt, change_silent (record node { order = (left node.order view).now }) (own_change node view))

-- a step that proposes
abbrev pub IsQuiet : NodeStep → Type 0
IsQuiet (Proposes time) = ⊥
IsQuiet step = Unit {0}

pub quiet_silent : (node : Node) (step : NodeStep) → IsQuiet step → AreSilent (deeds_of node step)
quiet_silent node (Delivers bytes) quiet = bytes_silent node (message_of bytes)
quiet_silent node (Takes signed) quiet = message_silent node signed signed.message
quiet_silent node (TakesRequests messages) quiet = tt
quiet_silent node (TakesOffered request) quiet = tt
quiet_silent node (Proposes time) quiet = absurd quiet
quiet_silent node Executes quiet = if_silent (is_ready node) (Orders order.Executes ∷ []) (tt, tt)
quiet_silent node Fails quiet = tt
quiet_silent node Checkpoints quiet = taken_silent (checkpoint_refusal node) (checkpoint_deeds node node.files) (told_silent node node.files)
quiet_silent node steps.TimesOut quiet = leaving_silent node (next_view node.order)
quiet_silent node (LeavesFor view) quiet = leaving_silent node view
quiet_silent node ForgetsAnswered quiet = tt
quiet_silent node ForgetsProposed quiet = tt
quiet_silent node (Adopts certificate files table) quiet =
    if_silent (may_adopt node certificate && bytes_eq (node_digest files table) certificate.digest) (Orders (order.Installs node.keys certificate) ∷ []) (tt, tt)
quiet_silent node (Settles certificate) quiet = taken_silent (settling_refusal node certificate) (Orders (order.Installs node.keys certificate) ∷ []) (tt, tt)
