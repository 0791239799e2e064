-- A step of a node has its order take one message, or none.
use Rattle.std.proofs.Common.{◌≡◌, ℕ, Bool, true, false, cond, List, [], ◌∷◌, ◌⊎◌, Option, Some, None, inl, inr, refl}
use Rattle.std.specs.Prelude.{◌&&◌, bytes_eq}
use Rattle.bfs_checkpoints.specs.Texts.{node_digest}
use Rattle.bfs_codec.specs.Reading.{message_of}
use Rattle.bfs_messages.specs.Messages as model
use Rattle.bfs_messages.specs.declared.message.Message.{Message}
use Rattle.bfs_messages.specs.declared.message.Message.TheVariants.{Request, Order, ViewChange, NewView, Reply}
use Rattle.bfs_messages.specs.declared.order_messages.OrderMessage.{OrderMessage}
use Rattle.bfs_messages.specs.declared.signed.Signed.{Signed}
use Rattle.bfs_model.specs.Server.Tree.{FileSystem}
use Rattle.bfs_order.specs.Laws.Calls as order
use Rattle.bfs_order.specs.Laws.Calls.{Call}
use Rattle.bfs_order.specs.Replica.Views.{left}
use Rattle.bfs_view_change.specs.Changes.Keeping.{changes_for, with_change}
use Rattle.bfs_node.specs.Adopting.{may_adopt}
use Rattle.bfs_node.specs.Changing.{change_in, change_refusal, leads, leaving_refusal, may_begin, new_view_in, next_view, own_change, own_new_view, view_refusal}
use Rattle.bfs_node.specs.Checkpoints.{checkpoint_refusal}
use Rattle.bfs_node.specs.Delivering.{order_in}
use Rattle.bfs_node.specs.Executing.{is_ready}
use Rattle.bfs_node.specs.Nodes.{Node}
use Rattle.bfs_node.specs.Settling.{settling_refusal}
use Rattle.bfs_node.specs.declared.error.NodeError.{NodeError}
use Rattle.bfs_nodes_agree.specs.Nodes.Steps as steps
use Rattle.bfs_nodes_agree.specs.Nodes.Steps.{NodeStep, Delivers, Takes, TakesRequests, TakesOffered, Proposes, Executes, Fails, Checkpoints, LeavesFor, ForgetsAnswered, ForgetsProposed, Adopts, Settles, begun_deeds, bytes_deeds, change_deeds, checkpoint_deeds, deeds_of, leaving_deeds, message_deeds, where_taken}
use Rattle.bfs_nodes_agree.specs.Views.Replicas.{ViewDeed, Orders, ChangesView}

abbrev pub TakesNothing : ViewDeed → Type 0
TakesNothing (Orders (order.Takes keys m)) = ⊥
TakesNothing deed = Unit {0}

abbrev pub TakeNothing : List ViewDeed → Type 0
TakeNothing [] = Unit {0}
TakeNothing (deed ∷ deeds) = TakesNothing deed × TakeNothing deeds

-- one message is taken by these keys, and that is all
pub record TakesOne (node : Node) (deeds : List ViewDeed) : Type 0 where
  pub message : Signed OrderMessage
  pub is : deeds ≡ Orders (order.Takes node.keys message) ∷ []

abbrev pub OneOrNone : Node → List ViewDeed → Type 0
OneOrNone node deeds = TakesOne node deeds ⊎ TakeNothing deeds

if_so : (b : Bool) (deeds : List ViewDeed) → TakeNothing deeds → TakeNothing (cond b deeds [])
if_so true deeds none = none
if_so false deeds none = tt

if_taken : (r : Option NodeError) (deeds : List ViewDeed) → TakeNothing deeds → TakeNothing (where_taken r deeds)
if_taken None deeds none = none
if_taken (Some refused) deeds none = tt

changes_none : (node : Node) (s : Signed model.ViewChange) → TakeNothing (change_deeds node s)
changes_none node s =
    let there = record node { changes = with_change node.changes s } in
    if_so (leads node s.message.view) (begun_deeds there)
    (if_so (may_begin there) (ChangesView there.keys there.order.asked (changes_for there.order.asked there.changes) (own_new_view there).proposals ∷ []) (tt, tt))

message_takes : (node : Node) (signed : Signed Message) (m : Message) → OneOrNone node (message_deeds node signed m)
message_takes node signed (Order message) = inl (record { message = order_in signed message; is = refl })
message_takes node signed (ViewChange change) = inr (if_taken (change_refusal node (change_in signed change)) (change_deeds node (change_in signed change)) (changes_none node (change_in signed change)))
message_takes node signed (NewView new) = inr (if_taken (view_refusal node (new_view_in signed new)) (ChangesView node.keys new.view new.changes new.proposals ∷ []) (tt, tt))
message_takes node signed (Request request) = inr tt
message_takes node signed (Reply reply) = inr tt

bytes_take : (node : Node) (o : Option (Signed Message)) → OneOrNone node (bytes_deeds node o)
bytes_take node None = inr tt
bytes_take node (Some signed) = message_takes node signed signed.message

told_none : (node : Node) (o : Option FileSystem) → TakeNothing (checkpoint_deeds node o)
told_none node None = tt
told_none node (Some files) = (tt, tt)

leaving_none : (node : Node) (view : ℕ) → TakeNothing (where_taken (leaving_refusal node view) (leaving_deeds node view))
leaving_none node view = if_taken (leaving_refusal node view) (leaving_deeds node view) (tt, changes_none (record node { order = (left node.order view).now }) (own_change node view))

pub step_takes : (node : Node) (step : NodeStep) → OneOrNone node (deeds_of node step)
step_takes node (Delivers bytes) = bytes_take node (message_of bytes)
step_takes node (Takes signed) = message_takes node signed signed.message
step_takes node (TakesRequests messages) = inr tt
step_takes node (TakesOffered request) = inr tt
step_takes node (Proposes time) = inr (tt, tt)
step_takes node Executes = inr (if_so (is_ready node) (Orders order.Executes ∷ []) (tt, tt))
step_takes node Fails = inr tt
step_takes node Checkpoints = inr (if_taken (checkpoint_refusal node) (checkpoint_deeds node node.files) (told_none node node.files))
step_takes node steps.TimesOut = inr (leaving_none node (next_view node.order))
step_takes node (LeavesFor view) = inr (leaving_none node view)
step_takes node ForgetsAnswered = inr tt
step_takes node ForgetsProposed = inr tt
step_takes node (Adopts certificate files table) =
    inr (if_so (may_adopt node certificate && bytes_eq (node_digest files table) certificate.digest) (Orders (order.Installs node.keys certificate) ∷ []) (tt, tt))
step_takes node (Settles certificate) = inr (if_taken (settling_refusal node certificate) (Orders (order.Installs node.keys certificate) ∷ []) (tt, tt))
