-- The text of a stable checkpoint, with the CHECKPOINTs that make it so (OSDI 1999 section 4.3).
use Rattle.std.specs.Prelude.{◌≡◌, ℕ, Bool, true, ◌==◌, ◌&&◌, List, ◌++◌, Option, Some, None, bytes_eq}
use Rattle.std.specs.List.{list_all}
use Rattle.bfs_model.specs.Bytes.Formats.{Reading, as_from, then_from, where_from}
use Rattle.bfs_model.specs.Bytes.Items.{fixed, hyper}
use Rattle.bfs_votes.specs.Votes.{is_stable}
use Rattle.bfs_messages.specs.Limits.{IsDigest, IsNumber}
use Rattle.bfs_messages.specs.Messages as model
use Rattle.bfs_messages.specs.Signing.{as_message}
use Rattle.bfs_messages.specs.declared.signed.Signed.{Signed}
use Rattle.bfs_messages.specs.declared.message.Message.TheVariants.{Order}
use Rattle.bfs_messages.specs.declared.order_messages.OrderMessage.TheVariants.{Checkpoint}
use Rattle.bfs_codec.specs.Parts.{digest_from, number_from}
use Rattle.bfs_log.specs.Certificates.{StableCheckpoint, checkpoints_in, senders_differ}
use Rattle.bfs_log.specs.Logs.{headers}
use Rattle.bfs_saving.specs.Items.{FitMany, FitsOptional, many_from, many_text, optional_from, optional_text}
use Rattle.bfs_saving.specs.Messages.{FitsText, checkpoint_of, kind_from, message_text}

abbrev pub checkpoint_text : Signed model.Checkpoint → List ℕ
checkpoint_text s = message_text (as_message (λ checkpoint. Order (Checkpoint checkpoint)) s)

abbrev pub FitsCheckpoint : Signed model.Checkpoint → Type 0
FitsCheckpoint s = FitsText (as_message (λ checkpoint. Order (Checkpoint checkpoint)) s)

-- the number, the digest, and the CHECKPOINTs
abbrev pub certificate_text : StableCheckpoint → List ℕ
certificate_text c = hyper c.number ++ fixed c.digest ++ many_text checkpoint_text c.checkpoints

abbrev pub FitsCertificate : StableCheckpoint → Type 0
FitsCertificate c = (IsNumber c.number × IsDigest c.digest) × FitMany FitsCheckpoint c.checkpoints

unfoldable pub certificate_from : List ℕ → Reading StableCheckpoint
certificate_from bytes =
    as_from (λ p. record { number = p.0.0; digest = p.0.1; checkpoints = p.1 }) (then_from (then_from number_from digest_from) (many_from (kind_from checkpoint_of))) bytes

-- Whether it makes its number stable ---------------------------------------------------------------------------------

abbrev pub tells : (number : ℕ) → (digest : List ℕ) → Signed model.Checkpoint → Bool
tells number digest s = (s.message.number == number) && bytes_eq s.message.digest digest

-- all of them tell it, 2f + 1 replicas or more, and no two are of one sender
abbrev pub makes_stable : (f : ℕ) → StableCheckpoint → Bool
makes_stable f c =
    list_all (tells c.number c.digest) c.checkpoints && (is_stable f (headers (checkpoints_in c)) c.number c.digest && senders_differ (checkpoints_in c))

abbrev pub may_be_kept : (f : ℕ) → Option StableCheckpoint → Bool
may_be_kept f None = true
may_be_kept f (Some c) = makes_stable f c

abbrev pub stable_text : Option StableCheckpoint → List ℕ
stable_text stable = optional_text certificate_text stable

abbrev pub FitsStable : (f : ℕ) → Option StableCheckpoint → Type 0
FitsStable f stable = FitsOptional FitsCertificate stable × (may_be_kept f stable ≡ true)

abbrev pub stable_from : (f : ℕ) → List ℕ → Reading (Option StableCheckpoint)
stable_from f bytes = where_from (may_be_kept f) (optional_from certificate_from) bytes
