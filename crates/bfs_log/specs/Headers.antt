-- The headers of messages of the order (OSDI 1999 sections 4.2 and 4.3).
use Rattle.bfs_votes.specs.Votes.{Header}
use Rattle.bfs_messages.specs.Messages.{Vote}
use Rattle.bfs_messages.specs.OrderMessages.{order_digest, order_number, order_sender, order_tag, order_view}
use Rattle.bfs_messages.specs.declared.signed.Signed.{Signed}
use Rattle.bfs_messages.specs.declared.order_messages.OrderMessage.{OrderMessage}
use Rattle.std.specs.Prelude.{ℕ}

abbrev pub vote_header : (tag : ℕ) → Vote → Header
vote_header tag vote = record { tag = tag; sender = vote.sender; view = vote.view; number = vote.number; digest = vote.digest }

-- kind, sender, place and digest of a message
abbrev pub message_header : OrderMessage → Header
message_header m = record { tag = order_tag m; sender = order_sender m; view = order_view m; number = order_number m; digest = order_digest m }

abbrev pub header : Signed OrderMessage → Header
header signed = message_header signed.message
