-- How messages are read, strictly.
use Rattle.std.specs.Prelude.{ℕ, ◌==◌, List, Option, None, if◌then◌else◌}
use Rattle.bfs_model.specs.Bytes.Call.{◌>>=◌}
use Rattle.bfs_model.specs.Bytes.Formats.{Reading, word_from, as_from, whole_from}
use Rattle.bfs_codec.specs.Parts.{behind_from, request_from, vote_from, checkpoint_from, reply_from}
use Rattle.bfs_codec.specs.ChangeReading.{behind_proposal_from, view_change_from, new_view_from}
use Rattle.bfs_messages.specs.declared.signed.Signed.{Signed}
use Rattle.bfs_messages.specs.declared.message.Message.{Message}
use Rattle.bfs_messages.specs.declared.message.Message.TheVariants.{Request, Order, ViewChange, NewView, Reply}
use Rattle.bfs_messages.specs.declared.order_messages.OrderMessage.TheVariants.{PrePrepare, Prepare, Commit, Checkpoint}
use Rattle.bfs_votes.specs.Tags.{checkpoint_tag, commit_tag, new_view_tag, pre_prepare_tag, prepare_tag, reply_tag, request_tag, view_change_tag}

-- a message of some kind
abbrev pub message_from : {A : Type 0} → (A → Message) → (List ℕ → Reading (Signed A)) → List ℕ → Reading (Signed Message)
message_from to from bytes = as_from (λ signed. record { message = to signed.message; auth = signed.auth }) from bytes

-- what stands behind each tag
unfoldable pub behind_tag_from : (tag : ℕ) → List ℕ → Reading (Signed Message)
behind_tag_from tag bytes =
    if tag == request_tag then message_from Request (behind_from request_from) bytes else
    (if tag == pre_prepare_tag then message_from (λ m. Order (PrePrepare m)) behind_proposal_from bytes else
    (if tag == prepare_tag then message_from (λ m. Order (Prepare m)) (behind_from vote_from) bytes else
    (if tag == commit_tag then message_from (λ m. Order (Commit m)) (behind_from vote_from) bytes else
    (if tag == checkpoint_tag then message_from (λ m. Order (Checkpoint m)) (behind_from checkpoint_from) bytes else
    (if tag == view_change_tag then message_from ViewChange (behind_from view_change_from) bytes else
    (if tag == new_view_tag then message_from NewView (behind_from new_view_from) bytes else
    (if tag == reply_tag then message_from Reply (behind_from reply_from) bytes else None)))))))

unfoldable pub signed_from : List ℕ → Reading (Signed Message)
signed_from bytes = do
  tag ← word_from bytes
  behind_tag_from tag.0 tag.1

-- the message that the bytes spell, all of them
unfoldable pub message_of : List ℕ → Option (Signed Message)
message_of bytes = whole_from signed_from bytes
