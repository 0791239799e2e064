-- The texts of messages.
use Rattle.std.specs.Prelude.{ℕ, List, [], ◌++◌}
use Rattle.bfs_model.specs.Bytes.Items.{word}
use Rattle.bfs_messages.specs.Batches.{auth_text, request_text, vote_text, checkpoint_text, reply_text, batch_text}
use Rattle.bfs_messages.specs.Changes.{view_change_text, new_view_text}
use Rattle.bfs_messages.specs.declared.signed.Signed.{Signed}
use Rattle.bfs_messages.specs.declared.message.Message.{Message}
use Rattle.bfs_messages.specs.declared.message.Message.TheVariants.{Request, Order, ViewChange, NewView, Reply}
use Rattle.bfs_messages.specs.declared.order_messages.OrderMessage.{OrderMessage}
use Rattle.bfs_messages.specs.declared.order_messages.OrderMessage.TheVariants.{PrePrepare, Prepare, Commit, Checkpoint}
use Rattle.bfs_messages.specs.OrderMessages.{order_tag}
use Rattle.bfs_votes.specs.Tags.{new_view_tag, reply_tag, request_tag, view_change_tag}

abbrev pub tag_of : Message → ℕ
tag_of (Request request) = request_tag
tag_of (Order message) = order_tag message
tag_of (ViewChange change) = view_change_tag
tag_of (NewView new) = new_view_tag
tag_of (Reply reply) = reply_tag

abbrev pub order_fields_text : OrderMessage → List ℕ
order_fields_text (PrePrepare proposal) = vote_text proposal.vote
order_fields_text (Prepare vote) = vote_text vote
order_fields_text (Commit vote) = vote_text vote
order_fields_text (Checkpoint checkpoint) = checkpoint_text checkpoint

-- what stands behind the tag of a message's body
abbrev pub fields_text : Message → List ℕ
fields_text (Request request) = request_text request
fields_text (Order message) = order_fields_text message
fields_text (ViewChange change) = view_change_text change
fields_text (NewView new) = new_view_text new
fields_text (Reply reply) = reply_text reply

abbrev pub order_attached_text : OrderMessage → List ℕ
order_attached_text (PrePrepare proposal) = batch_text proposal.batch
order_attached_text (Prepare vote) = []
order_attached_text (Commit vote) = []
order_attached_text (Checkpoint checkpoint) = []

-- what follows the authenticator
abbrev pub attached_text : Message → List ℕ
attached_text (Order message) = order_attached_text message
attached_text (Request request) = []
attached_text (ViewChange change) = []
attached_text (NewView new) = []
attached_text (Reply reply) = []

-- a message's body, of which the authenticator is made
abbrev pub body_text : Message → List ℕ
body_text message = word (tag_of message) ++ fields_text message

abbrev pub order_body_text : OrderMessage → List ℕ
order_body_text message = word (order_tag message) ++ order_fields_text message

unfoldable pub signed_text : Signed Message → List ℕ
signed_text signed = body_text signed.message ++ auth_text signed.auth ++ attached_text signed.message
