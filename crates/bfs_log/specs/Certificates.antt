-- What shows that a number is stable, and that a batch was prepared, as the holder of some keys sees it (OSDI 1999 sections 4.2 to 4.4).
use Rattle.std.specs.Prelude.{◌≡◌, ℕ, ◌+◌, ◌-◌, ◌*◌, ◌/◌, ◌==◌, Bool, true, ◌&&◌, not, List, [], ◌∷◌, map, length, All, nat_le, nat_lt, bytes_eq}
use Rattle.std.specs.List.{list_all, list_any}
use Rattle.bfs_auth.specs.Keys.{Keys}
use Rattle.bfs_votes.specs.Votes.{Header, SlotsDiffer, is_backed, is_stable, replicas}
use Rattle.bfs_votes.specs.Tags.{checkpoint_tag, prepare_tag}
use Rattle.bfs_messages.specs.Messages as model
use Rattle.bfs_messages.specs.Messages.{Vote, PreparedBatch}
use Rattle.bfs_messages.specs.Signing.{as_message, carried_are_signed, order_is_signed}
use Rattle.bfs_messages.specs.declared.signed.Signed.{Signed}
use Rattle.bfs_messages.specs.declared.order_messages.OrderMessage.{OrderMessage}
use Rattle.bfs_messages.specs.declared.order_messages.OrderMessage.TheVariants.{PrePrepare, Prepare, Checkpoint}
use Rattle.bfs_log.specs.Headers.{header}
use Rattle.bfs_log.specs.Logs.{Log, headers}

-- how many replicas may be faulty where the keys are shared with 3f + 1 (OSDI 1999 section 4)
abbrev pub faults : Keys → ℕ
faults keys = (length keys.replicas - 1) / 3

abbrev pub has_sender : Log → (sender : ℕ) → Bool
has_sender messages sender = list_any (λ m. (header m).sender == sender) messages

abbrev pub senders_differ : Log → Bool
senders_differ [] = true
senders_differ (m ∷ ms) = not (has_sender ms (header m).sender) && senders_differ ms

-- A stable number -------------------------------------------------------------------------------------------------------

-- a number with a digest, and CHECKPOINTs that are to tell it (OSDI 1999 section 4.3)
pub record StableCheckpoint : Type 0 where
  pub number : ℕ
  pub digest : List ℕ
  pub checkpoints : List (Signed model.Checkpoint)

abbrev pub as_checkpoints : List (Signed model.Checkpoint) → Log
as_checkpoints checkpoints = map (as_message Checkpoint) checkpoints

abbrev pub checkpoints_in : StableCheckpoint → Log
checkpoints_in c = as_checkpoints c.checkpoints

-- a replica's CHECKPOINT of that number and digest
abbrev pub vouches : Keys → (f number : ℕ) → List ℕ → Signed OrderMessage → Bool
vouches keys f number digest m =
    ((header m).tag == checkpoint_tag) && (((header m).number == number) && (bytes_eq (header m).digest digest && (nat_lt (header m).sender (replicas f) && order_is_signed keys m)))

-- CHECKPOINTs of 2f + 1 different replicas or more tell it (OSDI 1999 section 4.3)
abbrev pub is_shown : Keys → (f : ℕ) → StableCheckpoint → Bool
is_shown keys f c =
    list_all (vouches keys f c.number c.digest) (checkpoints_in c) && (senders_differ (checkpoints_in c) && nat_le (2 * f + 1) (length c.checkpoints))

-- a CHECKPOINT of that number and digest
pub record IsCheckpointOf (number : ℕ) (digest : List ℕ) (m : Signed OrderMessage) : Type 0 where
  pub tag : (header m).tag ≡ checkpoint_tag
  pub number_is : (header m).number ≡ number
  pub digest_is : (header m).digest ≡ digest

-- its CHECKPOINTs alone make it stable: all of them tell it, and no two are of one replica
pub record MakesStable (f : ℕ) (c : StableCheckpoint) : Type 0 where
  pub stable : is_stable f (headers (checkpoints_in c)) c.number c.digest ≡ true
  pub all : All (IsCheckpointOf c.number c.digest) (checkpoints_in c)
  pub differ : SlotsDiffer (headers (checkpoints_in c))

-- A prepared batch ------------------------------------------------------------------------------------------------------

abbrev pub prepares_in : PreparedBatch → Log
prepares_in c = map (as_message Prepare) c.prepares

-- its PRE-PREPARE, and then its PREPAREs (OSDI 1999 section 4.4)
abbrev pub messages_in : PreparedBatch → Log
messages_in c = as_message PrePrepare c.proposal ∷ prepares_in c

abbrev pub vote_in : PreparedBatch → Vote
vote_in c = c.proposal.message.vote

-- for which number a batch was prepared
abbrev pub number_in : PreparedBatch → ℕ
number_in c = (vote_in c).number

-- in which view
abbrev pub view_in : PreparedBatch → ℕ
view_in c = (vote_in c).view

-- it is its sender's, and the REQUESTs that it carries are their clients'
abbrev pub is_all_signed : Keys → Signed OrderMessage → Bool
is_all_signed keys m = order_is_signed keys m && carried_are_signed keys m.message

-- a PREPARE that tells the digest of a PRE-PREPARE, for its number in its view (OSDI 1999 section 4.2)
abbrev pub matches : (proposed : Vote) → Header → Bool
matches proposed h = (h.tag == prepare_tag) && ((h.view == proposed.view) && ((h.number == proposed.number) && bytes_eq h.digest proposed.digest))

-- the primary's PRE-PREPARE, and PREPAREs of 2f different backups (OSDI 1999 section 4.2)
abbrev pub is_proved : (f : ℕ) → PreparedBatch → Bool
is_proved f c = is_backed f (headers (messages_in c)) (view_in c) (number_in c) (vote_in c).digest

-- PREPAREs that match the primary's PRE-PREPARE, of 2f different backups or more, and all is signed (OSDI 1999 section 4.4)
abbrev pub certifies : Keys → PreparedBatch → Bool
certifies keys c =
    list_all (λ m. matches (vote_in c) (header m)) (prepares_in c)
    && (senders_differ (messages_in c)
    && (is_proved (faults keys) c
    && list_all (is_all_signed keys) (messages_in c)))
