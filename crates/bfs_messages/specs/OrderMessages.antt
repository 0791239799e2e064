-- What a message of the order says: its kind, its sender, its place and its digest (OSDI 1999 sections 4.2 and 4.3).
use Rattle.std.specs.Prelude.{ℕ, List}
use Rattle.bfs_messages.specs.declared.order_messages.OrderMessage.{OrderMessage}
use Rattle.bfs_messages.specs.declared.order_messages.OrderMessage.TheVariants.{PrePrepare, Prepare, Commit, Checkpoint}
use Rattle.bfs_votes.specs.Tags.{checkpoint_tag, commit_tag, pre_prepare_tag, prepare_tag}

abbrev pub order_tag : OrderMessage → ℕ
order_tag (PrePrepare proposal) = pre_prepare_tag
order_tag (Prepare vote) = prepare_tag
order_tag (Commit vote) = commit_tag
order_tag (Checkpoint checkpoint) = checkpoint_tag

abbrev pub order_sender : OrderMessage → ℕ
order_sender (PrePrepare proposal) = proposal.vote.sender
order_sender (Prepare vote) = vote.sender
order_sender (Commit vote) = vote.sender
order_sender (Checkpoint checkpoint) = checkpoint.sender

-- a CHECKPOINT is of no view: 0
abbrev pub order_view : OrderMessage → ℕ
order_view (PrePrepare proposal) = proposal.vote.view
order_view (Prepare vote) = vote.view
order_view (Commit vote) = vote.view
order_view (Checkpoint checkpoint) = 0

abbrev pub order_number : OrderMessage → ℕ
order_number (PrePrepare proposal) = proposal.vote.number
order_number (Prepare vote) = vote.number
order_number (Commit vote) = vote.number
order_number (Checkpoint checkpoint) = checkpoint.number

abbrev pub order_digest : OrderMessage → List ℕ
order_digest (PrePrepare proposal) = proposal.vote.digest
order_digest (Prepare vote) = vote.digest
order_digest (Commit vote) = vote.digest
order_digest (Checkpoint checkpoint) = checkpoint.digest
