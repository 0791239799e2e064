-- Logs of messages: what is found in them, and what of them is dropped (OSDI 1999 sections 4.2 and 4.3).
use Rattle.std.specs.Prelude.{ℕ, ◌==◌, Bool, ◌&&◌, ◌||◌, max, List, [], ◌∷◌, map, filter, find, Option, Some, None, nat_lt, bytes_eq, if◌then◌else◌}
use Rattle.std.specs.Option.{option_map}
use Rattle.bfs_messages.specs.Signing.{as_message}
use Rattle.bfs_messages.specs.declared.signed.Signed.{Signed}
use Rattle.bfs_messages.specs.declared.message.Message.{Message}
use Rattle.bfs_messages.specs.declared.message.Message.TheVariants.{Order}
use Rattle.bfs_messages.specs.declared.order_messages.OrderMessage.{OrderMessage}
use Rattle.bfs_messages.specs.declared.order_messages.OrderMessage.TheVariants.{PrePrepare, Prepare, Commit, Checkpoint}
use Rattle.bfs_votes.specs.Votes.{Header, is_slot}
use Rattle.bfs_log.specs.Batches.{Committed, Said}
use Rattle.bfs_log.specs.Headers.{header}
use Rattle.bfs_votes.specs.Tags.{checkpoint_tag, pre_prepare_tag}

-- the messages that a replica has accepted and not dropped, its own among them, in the order in which they came
abbrev pub Log : Type 0
Log = List (Signed OrderMessage)

-- as they are sent
abbrev pub as_messages : Log → List (Signed Message)
as_messages log = map (as_message Order) log

abbrev pub headers : Log → List Header
headers log = map header log

-- the number and the batch of a PRE-PREPARE
abbrev pub batch_in : OrderMessage → Option Committed
batch_in (PrePrepare proposal) = Some (record { number = proposal.vote.number; batch = proposal.batch })
batch_in (Prepare vote) = None
batch_in (Commit vote) = None
batch_in (Checkpoint checkpoint) = None

-- what a message says at its place: itself, its sender, its digest, and the batch of a PRE-PREPARE
abbrev pub said_in : Signed OrderMessage → Said
said_in m = record { signed = m; sender = (header m).sender; digest = (header m).digest; batch = batch_in m.message }

-- the first message of a kind, sender, view and number
abbrev pub message_at : Log → (tag sender view number : ℕ) → Option (Signed OrderMessage)
message_at log tag sender view number = find (λ m. is_slot tag sender view number (header m)) log

-- what it says
abbrev pub said_of : Log → (tag sender view number : ℕ) → Option Said
said_of log tag sender view number = option_map said_in (message_at log tag sender view number)

-- the greatest number of a PRE-PREPARE of a view, 0 where there is none
abbrev pub greatest_proposed : (view : ℕ) → List Header → ℕ
greatest_proposed view [] = 0
greatest_proposed view (h ∷ hs) = if (h.tag == pre_prepare_tag) && (h.view == view) then max h.number (greatest_proposed view hs) else greatest_proposed view hs

-- above a checkpoint, or a CHECKPOINT that tells it (OSDI 1999 section 4.3)
abbrev pub stays : (number : ℕ) → List ℕ → Header → Bool
stays number digest h = nat_lt number h.number || ((h.tag == checkpoint_tag) && ((h.number == number) && bytes_eq h.digest digest))

-- what stays in the log once a checkpoint is stable (OSDI 1999 section 4.3)
abbrev pub kept_after : (number : ℕ) → List ℕ → Log → Log
kept_after number digest log = filter (λ m. stays number digest (header m)) log
