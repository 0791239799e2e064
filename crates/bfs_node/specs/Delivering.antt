-- A message comes: each kind goes to its part, and what the part gives is sent (OSDI 1999 sections 4.1 to 4.4).
use Rattle.std.specs.Prelude.{◌≡◌, ℕ, not, [], ◌∷◌, ◌++◌, length, take, Option, Some, None, nat_le, if◌then◌else◌}
use Rattle.std.specs.List.{fold}
use Rattle.std.specs.Option.{option_map}
use Rattle.bfs_model.specs.Server.Limits.{most_requests}
use Rattle.bfs_votes.specs.Votes.{Header}
use Rattle.bfs_checkpoints.specs.Certificates.{told_checkpoint}
use Rattle.bfs_checkpoints.specs.Keeping.{Keeping, settled}
use Rattle.bfs_log.specs.Headers.{header}
use Rattle.bfs_log.specs.Logs.{as_messages}
use Rattle.bfs_messages.specs.Messages as model
use Rattle.bfs_messages.specs.declared.signed.Signed.{Signed}
use Rattle.bfs_messages.specs.declared.order_messages.OrderMessage.{OrderMessage}
use Rattle.bfs_messages.specs.declared.message.Message.{Message}
use Rattle.bfs_messages.specs.declared.message.Message.TheVariants.{Request, Order, ViewChange, NewView, Reply}
use Rattle.bfs_messages.specs.Signing.{request_is_signed}
use Rattle.bfs_order.specs.Replica.Accepting.{accepted, makes_stable}
use Rattle.bfs_order.specs.Replica.Refusals.{refusal}
use Rattle.bfs_order.specs.Replica.States.{State, with_message}
use Rattle.bfs_view_change.specs.Changes.NewViews.{ground_refusal}
use Rattle.bfs_node.specs.Changing.{change_in, change_refusal, new_view_in, view_refusal, with_new_view, with_view_change}
use Rattle.bfs_node.specs.Errors.{of_order, of_view}
use Rattle.bfs_node.specs.Nodes.{Messages, Node, Outcome}
use Rattle.bfs_node.specs.declared.error.NodeError.{NodeError}
use Rattle.bfs_node.specs.declared.error.NodeError.TheVariants as error

-- Requests ---------------------------------------------------------------------------------------------------------------

abbrev pub request_in : Signed Message → model.Request → Signed model.Request
request_in signed request = record { message = request; auth = signed.auth }

-- that is not its client's, or one too many
abbrev pub request_refusal : Node → Signed model.Request → Option NodeError
request_refusal node request =
    if not (request_is_signed node.keys request) then Some error.BadAuthenticator else
    (if nat_le most_requests (length node.pending) then Some error.BatchFull else None)

-- it goes to the end of the list of those that wait; nothing is sent
abbrev pub with_request : Node → Signed model.Request → Outcome
with_request node request = record { now = record node { pending = node.pending ++ request ∷ [] }; sent = [] }

-- Many requests -----------------------------------------------------------------------------------------------------------

abbrev pub if_taken : Option NodeError → (taken node : Node) → Node
if_taken None taken node = taken
if_taken (Some refused) taken node = node

-- a REQUEST that is refused is lost, and any other message is passed over
abbrev pub after_request : Node → Signed Message → Message → Node
after_request node signed (Request request) = if_taken (request_refusal node (request_in signed request)) (with_request node (request_in signed request)).now node
after_request node signed _ = node

-- the REQUESTs among messages come, one after another
abbrev pub after_requests : Node → Messages → Node
after_requests node messages = fold (λ node signed. after_request node signed signed.message) node messages

-- the first ones of them came, and no other
abbrev pub SomeCame : (before : Node) → Messages → (after : Node) → Type 0
SomeCame before messages after = (count : ℕ) × (after ≡ after_requests before (take count messages))

-- Messages of the order ----------------------------------------------------------------------------------------------------

abbrev pub order_in : Signed Message → OrderMessage → Signed OrderMessage
order_in signed message = record { message = message; auth = signed.auth }

abbrev pub order_refusal : Node → Signed OrderMessage → Option NodeError
order_refusal node signed = option_map of_order (refusal node.keys node.order signed)

-- a CHECKPOINT that makes its number stable settles the snapshots, by the CHECKPOINTs of that number and digest in the log that it stands in
abbrev pub settled_by : State → Header → Keeping → Keeping
settled_by state h snapshots = if makes_stable state h then settled (told_checkpoint h.number h.digest state.log) snapshots else snapshots

abbrev pub ordered : Node → Signed OrderMessage → Outcome
ordered node signed =
    let done = accepted node.keys node.order signed in
    record {
      now = record node { order = done.now; snapshots = settled_by (with_message node.order signed) (header signed) node.snapshots };
      sent = as_messages done.sent;
    }

-- All kinds ---------------------------------------------------------------------------------------------------------------------

-- why a message is refused, if it is: replicas send no REPLY to one another
abbrev pub message_refusal : Node → Signed Message → Message → Option NodeError
message_refusal node signed (Request request) = request_refusal node (request_in signed request)
message_refusal node signed (Order message) = order_refusal node (order_in signed message)
message_refusal node signed (ViewChange change) = change_refusal node (change_in signed change)
message_refusal node signed (NewView new) = view_refusal node (new_view_in signed new)
message_refusal node signed (Reply reply) = Some error.WrongKind

-- what of that is known before memory is asked for: all, but for the choice and the view of a NEW-VIEW
abbrev pub early_message_refusal : Node → Signed Message → Message → Option NodeError
early_message_refusal node signed (NewView new) = option_map of_view (ground_refusal node.keys (new_view_in signed new))
early_message_refusal node signed message = message_refusal node signed message

abbrev pub early_refusal : Node → Signed Message → Option NodeError
early_refusal node signed = early_message_refusal node signed signed.message

abbrev pub delivery_refusal : Node → Signed Message → Option NodeError
delivery_refusal node signed = message_refusal node signed signed.message

-- what a message that is not refused does
abbrev pub message_delivered : Node → Signed Message → Message → Outcome
message_delivered node signed (Request request) = with_request node (request_in signed request)
message_delivered node signed (Order message) = ordered node (order_in signed message)
message_delivered node signed (ViewChange change) = with_view_change node (change_in signed change)
message_delivered node signed (NewView new) = with_new_view node (new_view_in signed new)
message_delivered node signed (Reply reply) = record { now = node; sent = [] }

abbrev pub delivered : Node → Signed Message → Outcome
delivered node signed = message_delivered node signed signed.message

-- Bytes -------------------------------------------------------------------------------------------------------------------------

-- bytes that spell no message are refused
abbrev pub bytes_refusal : Node → Option (Signed Message) → Option NodeError
bytes_refusal node None = Some error.Malformed
bytes_refusal node (Some signed) = delivery_refusal node signed

abbrev pub bytes_delivered : Node → Option (Signed Message) → Outcome
bytes_delivered node None = record { now = node; sent = [] }
bytes_delivered node (Some signed) = delivered node signed
