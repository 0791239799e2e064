-- Who signs messages, and which are signed as the receiver sees it, who holds the keys.
use Rattle.std.specs.Prelude.{Bool, true, ◌++◌}
use Rattle.std.specs.List.{list_all}
use Rattle.bfs_model.specs.Bytes.Items.{word}
use Rattle.bfs_auth.specs.Keys.{Keys}
use Rattle.bfs_auth.specs.Authenticators.{passes, signature}
use Rattle.bfs_auth.specs.declared.principals.Principal.{Principal}
use Rattle.bfs_auth.specs.declared.principals.Principal.TheVariants.{Replica, Client}
use Rattle.bfs_messages.specs.Messages as model
use Rattle.bfs_messages.specs.Messages.{Batch, requests_of}
use Rattle.bfs_messages.specs.Batches.{request_text}
use Rattle.bfs_messages.specs.OrderMessages.{order_sender}
use Rattle.bfs_messages.specs.Spelling.{body_text, order_body_text}
use Rattle.bfs_messages.specs.declared.signed.Signed.{Signed}
use Rattle.bfs_messages.specs.declared.message.Message.{Message}
use Rattle.bfs_messages.specs.declared.message.Message.TheVariants.{Request, Order, ViewChange, NewView, Reply}
use Rattle.bfs_messages.specs.declared.order_messages.OrderMessage.{OrderMessage}
use Rattle.bfs_messages.specs.declared.order_messages.OrderMessage.TheVariants.{PrePrepare, Prepare, Commit, Checkpoint}
use Rattle.bfs_votes.specs.Tags.{request_tag}

abbrev pub sender_of : Message → Principal
sender_of (Request request) = Client request.client
sender_of (Order message) = Replica (order_sender message)
sender_of (ViewChange change) = Replica change.sender
sender_of (NewView new) = Replica new.sender
sender_of (Reply reply) = Replica reply.sender

-- the authenticator is the sender's for the message's body, as the receiver sees it
abbrev pub is_signed : Keys → Signed Message → Bool
is_signed keys signed = passes keys (sender_of signed.message) (body_text signed.message) signed.auth

-- a signed message of one kind, as one of several
abbrev pub as_message : {A B : Type 0} → (A → B) → Signed A → Signed B
as_message kind s = record { message = kind s.message; auth = s.auth }

-- of a message of the order
abbrev pub order_is_signed : Keys → Signed OrderMessage → Bool
order_is_signed keys signed = passes keys (Replica (order_sender signed.message)) (order_body_text signed.message) signed.auth

-- a REQUEST in a batch
abbrev pub request_is_signed : Keys → Signed model.Request → Bool
request_is_signed keys signed = passes keys (Client signed.message.client) (word request_tag ++ request_text signed.message) signed.auth

abbrev pub requests_are_signed : Keys → Batch → Bool
requests_are_signed keys batch = list_all (request_is_signed keys) (requests_of batch)

-- the REQUESTs that a message of the order carries
abbrev pub carried_are_signed : Keys → OrderMessage → Bool
carried_are_signed keys (PrePrepare proposal) = requests_are_signed keys proposal.batch
carried_are_signed keys (Prepare vote) = true
carried_are_signed keys (Commit vote) = true
carried_are_signed keys (Checkpoint checkpoint) = true

-- signed for all replicas
abbrev pub signed_by : Keys → Message → Signed Message
signed_by keys message = record { message = message; auth = signature keys (body_text message) }

abbrev pub order_signed_by : Keys → OrderMessage → Signed OrderMessage
order_signed_by keys message = record { message = message; auth = signature keys (order_body_text message) }
