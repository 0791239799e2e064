-- What ties the text of a replica to its reading, and a stable checkpoint to its certificate.
use Rattle.std.specs.Prelude.{◌≡◌, ℕ, true, List, length}
use Rattle.std.specs.List.{Contains, list_all}
use Rattle.bfs_auth.specs.Keys.{Keys}
use Rattle.bfs_model.specs.Server.Stored.{IsLive}
use Rattle.bfs_model.specs.Server.Tree.{FileSystem}
use Rattle.bfs_votes.specs.Votes.{SlotsDiffer, is_stable}
use Rattle.bfs_log.specs.Logs.{Log, headers}
use Rattle.bfs_replies.specs.Tables.{Table, IsKept}
use Rattle.bfs_log.specs.Certificates.{MakesStable, as_checkpoints, has_sender, senders_differ, vouches}
use Rattle.bfs_messages.specs.Messages.{Checkpoint}
use Rattle.bfs_messages.specs.Signing.{as_message}
use Rattle.bfs_messages.specs.declared.signed.Signed.{Signed}
use Rattle.bfs_messages.specs.declared.order_messages.OrderMessage.TheVariants as order
use Rattle.bfs_checkpoints.specs.Certificates.{told_checkpoint}
use Rattle.bfs_checkpoints.specs.Collecting.{right_checkpoints}
use Rattle.bfs_checkpoints.specs.Texts.{SpellsNode, node_text}
use Rattle.bfs_checkpoints.specs.Outcomes.{NodeHasOtherVersion, NodeIsMalformed, SpellsIllFormedNode}

-- a replica has one text
abbrev pub ANodeHasOneText : Type 0
ANodeHasOneText = (clients others : ℕ) (files : FileSystem) (table : Table) (one other : List ℕ) → SpellsNode clients one files table → SpellsNode others other files table → one ≡ other

-- a text spells at most one replica
abbrev pub ATextSpellsOneNode : Type 0
ATextSpellsOneNode = (clients others : ℕ) (bytes : List ℕ) (files found : FileSystem) (table read : Table)
    → SpellsNode clients bytes files table → SpellsNode others bytes found read → (found ≡ files) × (read ≡ table)

-- nothing refuses the bytes but want of memory
pub record IsReadable (clients : ℕ) (bytes : List ℕ) : Type 0 where
  pub not_malformed : NodeIsMalformed clients bytes → ⊥
  pub not_other : NodeHasOtherVersion clients bytes → ⊥
  pub not_ill_formed : SpellsIllFormedNode clients bytes → ⊥

-- the text of a live file system and a table spells them, and can be read
abbrev pub LiveNodesAreReadAgain : Type 0
LiveNodesAreReadAgain = (files : FileSystem) (table : Table) → IsLive files → IsKept table → SpellsNode (length table) (node_text files table) files table × IsReadable (length table) (node_text files table)

-- the CHECKPOINTs of a log that tell a stable checkpoint make it stable, where the log tells nothing twice
abbrev pub AStableCheckpointHasACertificate : Type 0
AStableCheckpointHasACertificate = (f number : ℕ) (digest : List ℕ) (log : Log) → SlotsDiffer (headers log) → is_stable f (headers log) number digest ≡ true → MakesStable f (told_checkpoint number digest log)

-- each of these is right by the keys and was told, no two are of one replica, and each replica that told a right one has one here
pub record AreTheRightOnes (keys : Keys) (f number : ℕ) (digest : List ℕ) (told right : List (Signed Checkpoint)) : Type 0 where
  pub each : list_all (vouches keys f number digest) (as_checkpoints right) ≡ true
  pub differ : senders_differ (as_checkpoints right) ≡ true
  pub were_told : (c : Signed Checkpoint) → Contains right c → Contains told c
  pub all : (c : Signed Checkpoint) → Contains told c → vouches keys f number digest (as_message order.Checkpoint c) ≡ true → has_sender (as_checkpoints right) c.message.sender ≡ true

-- so what is collected shows a checkpoint, and nothing is collected only where fewer than 2f + 1 replicas have told a right one
abbrev pub RightCheckpointsAreCollected : Type 0
RightCheckpointsAreCollected = (keys : Keys) (f number : ℕ) (digest : List ℕ) (told : List (Signed Checkpoint))
    → AreTheRightOnes keys f number digest told (right_checkpoints keys f number digest told)
