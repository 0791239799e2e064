-- Messages in the text of a saved replica, each behind its length.
use Rattle.std.specs.Prelude.{ℕ, List, length, Option, Some, None}
use Rattle.std.specs.Option.{option_map}
use Rattle.bfs_model.specs.Bytes.Formats.{Reading}
use Rattle.bfs_model.specs.Server.Stored.{IsDouble}
use Rattle.bfs_messages.specs.Fits.{FitsMessage}
use Rattle.bfs_messages.specs.Limits.{FitsSigned}
use Rattle.bfs_messages.specs.Messages as model
use Rattle.bfs_messages.specs.Spelling.{signed_text}
use Rattle.bfs_messages.specs.declared.signed.Signed.{Signed}
use Rattle.bfs_messages.specs.declared.message.Message.{Message}
use Rattle.bfs_messages.specs.declared.message.Message.TheVariants.{Request, Order, ViewChange, NewView}
use Rattle.bfs_messages.specs.declared.order_messages.OrderMessage.{OrderMessage}
use Rattle.bfs_messages.specs.declared.order_messages.OrderMessage.TheVariants.{Checkpoint}
use Rattle.bfs_codec.specs.Reading.{message_of}
use Rattle.bfs_saving.specs.Items.{long_from, long_text, made_from}

abbrev pub message_text : Signed Message → List ℕ
message_text signed = long_text (signed_text signed)

abbrev pub FitsText : Signed Message → Type 0
FitsText signed = FitsSigned FitsMessage signed × IsDouble (length (signed_text signed))

abbrev pub message_from : List ℕ → Reading (Signed Message)
message_from bytes = made_from message_of long_from bytes

-- Messages of one kind -----------------------------------------------------------------------------------------------

abbrev pub order_of : Message → Option OrderMessage
order_of (Order message) = Some message
order_of other = None

abbrev pub checkpoint_of : Message → Option model.Checkpoint
checkpoint_of (Order (Checkpoint checkpoint)) = Some checkpoint
checkpoint_of other = None

abbrev pub request_of : Message → Option model.Request
request_of (Request request) = Some request
request_of other = None

abbrev pub view_change_of : Message → Option model.ViewChange
view_change_of (ViewChange change) = Some change
view_change_of other = None

abbrev pub new_view_of : Message → Option model.NewView
new_view_of (NewView new) = Some new
new_view_of other = None

-- a message, where it is of that kind
abbrev pub signed_of : {A : Type 0} → (Message → Option A) → Signed Message → Option (Signed A)
signed_of of signed = option_map (λ message. record { message = message; auth = signed.auth }) (of signed.message)

abbrev pub kind_from : {A : Type 0} → (Message → Option A) → List ℕ → Reading (Signed A)
kind_from of bytes = made_from (signed_of of) message_from bytes
