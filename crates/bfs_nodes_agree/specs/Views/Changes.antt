-- VIEW-CHANGEs and NEW-VIEWs by the headers of what they hold (OSDI 1999 section 4.4).
use Rattle.std.specs.Prelude.{◌≡◌, ℕ, ◌<◌, Bool, true, false, map}
use Rattle.sha2.specs.Sha256.{sha256}
use Rattle.bfs_votes.specs.Votes.{Header, primary}
use Rattle.bfs_log.specs.Headers.{header}
use Rattle.bfs_log.specs.Logs.{headers}
use Rattle.bfs_messages.specs.Messages as model
use Rattle.bfs_messages.specs.Batches.{batch_text}
use Rattle.bfs_messages.specs.declared.signed.Signed.{Signed}
use Rattle.bfs_messages.specs.declared.order_messages.OrderMessage.{OrderMessage}
use Rattle.bfs_messages.specs.declared.order_messages.OrderMessage.TheVariants.{PrePrepare}
use Rattle.bfs_agreement.specs.Histories.{IsIn, Certificate, ViewChange, World, WasSent}
use Rattle.bfs_log.specs.Certificates.{is_proved, messages_in, prepares_in, view_in}
use Rattle.bfs_view_change.specs.Changes.Choice.{Chosen}
use Rattle.bfs_messages.specs.Signing.{as_message}
use Rattle.bfs_votes.specs.Tags.{pre_prepare_tag}

abbrev pub told_certificate : model.PreparedBatch → Certificate
told_certificate c = record { proposal = header (as_message PrePrepare c.proposal); prepares = headers (prepares_in c) }

abbrev pub told_change : model.ViewChange → ViewChange
told_change change =
    record { sender = change.sender; view = change.view; stable = change.stable; certificates = map told_certificate change.certificates }

-- the PRE-PREPARE of a view for what was chosen
abbrev pub proposal_of : (f view : ℕ) → Chosen → Header
proposal_of f view c = record { tag = pre_prepare_tag; sender = primary f view; view = view; number = c.number; digest = sha256 (batch_text c.batch) }

-- a certificate's PRE-PREPARE tells its batch's digest, as each PRE-PREPARE does
abbrev pub IsWhole : model.PreparedBatch → Type 0
IsWhole c = c.proposal.message.vote.digest ≡ sha256 (batch_text c.proposal.message.batch)

-- a VIEW-CHANGE under a correct sender's name was sent by it, and so was each message in its certificates
pub record IsGenuine (faulty : ℕ → Bool) (w : World) (change : model.ViewChange) : Type 0 where
  pub sent : faulty change.sender ≡ false → IsIn (told_change change) (w change.sender).changes
  pub certificates : (c : model.PreparedBatch) (m : Signed OrderMessage) → IsIn c change.certificates → IsIn m (messages_in c)
      → WasSent faulty w (header m).tag (header m).sender (header m).view (header m).number (header m).digest
  pub whole : (c : model.PreparedBatch) → IsIn c change.certificates → IsWhole c

-- each of its certificates is of a view before the one that is asked for, and has PREPAREs of 2f different backups
pub record HasProofs (f view : ℕ) (change : model.ViewChange) : Type 0 where
  pub earlier : (c : model.PreparedBatch) → IsIn c change.certificates → view_in c < view
  pub proved : (c : model.PreparedBatch) → IsIn c change.certificates → is_proved f c ≡ true
