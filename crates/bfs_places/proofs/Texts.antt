-- What says the same has one text and is of one place, and so do votes of one header.
use Rattle.std.proofs.Common.{◌≡◌, ℕ, ◌<◌, List, ◌++◌, refl, sym, ap, ◌∙◌, arith}
use Rattle.bfs_votes.specs.Votes.{Header}
use Rattle.bfs_log.specs.Headers.{message_header}
use Rattle.bfs_model.specs.Bytes.Items.{word}
use Rattle.bfs_messages.specs.Batches.{vote_text}
use Rattle.bfs_messages.specs.Spelling.{body_text, order_body_text}
use Rattle.bfs_messages.specs.declared.message.Message.{Message}
use Rattle.bfs_messages.specs.declared.message.Message.TheVariants.{Order}
use Rattle.bfs_messages.specs.declared.order_messages.OrderMessage.{OrderMessage}
use Rattle.bfs_messages.specs.declared.order_messages.OrderMessage.TheVariants.{PrePrepare, Prepare, Commit, Checkpoint}
use Rattle.bfs_nodes_agree.specs.Nodes.Premises.{SaysTheSame, order_signed_part, signed_part}
use Rattle.bfs_places.proofs.Places.{order_place, place_of}

order_text_kept : (m : OrderMessage) → order_body_text (order_signed_part m) ≡ order_body_text m
order_text_kept (PrePrepare proposal) = refl
order_text_kept other = refl

text_kept : (m : Message) → body_text (signed_part m) ≡ body_text m
text_kept (Order m) = order_text_kept m
text_kept other = refl

order_place_kept : (m : OrderMessage) → order_place (order_signed_part m) ≡ order_place m
order_place_kept (PrePrepare proposal) = refl
order_place_kept other = refl

place_kept : (m : Message) → place_of (signed_part m) ≡ place_of m
place_kept (Order m) = order_place_kept m
place_kept other = refl

pub same_text : (m n : Message) → SaysTheSame m n → body_text m ≡ body_text n
same_text m n same = sym (text_kept m) ∙ ap body_text same ∙ text_kept n

pub same_place : (m n : Message) → SaysTheSame m n → place_of m ≡ place_of n
same_place m n same = sym (place_kept m) ∙ ap place_of same ∙ place_kept n

text_by : Header → List ℕ
text_by h = word h.tag ++ vote_text (record { sender = h.sender; view = h.view; number = h.number; digest = h.digest })

text_of : (m : OrderMessage) → (message_header m).tag < 5 → order_body_text m ≡ text_by (message_header m)
unfolding text_by
text_of (PrePrepare proposal) small = refl
text_of (Prepare vote) small = refl
text_of (Commit vote) small = refl
text_of (Checkpoint checkpoint) small = absurd (omega (arith, small))

pub header_tells : (m n : OrderMessage) → (message_header m).tag < 5 → (message_header n).tag < 5 → message_header m ≡ message_header n → body_text (Order m) ≡ body_text (Order n)
header_tells m n small less same = text_of m small ∙ ap text_by same ∙ sym (text_of n less)
