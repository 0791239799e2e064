-- A replica that is behind takes over the stable snapshot of another one (OSDI 1999 section 4.3).
use Rattle.std.specs.Prelude.{◌≡◌, ℕ, ◌==◌, Bool, true, false, ◌&&◌, ◌||◌, not, is_some, List, length, Option, Some, nat_lt}
use Rattle.bfs_model.specs.Server.Stored.{IsLive}
use Rattle.bfs_model.specs.Server.Tree.{FileSystem}
use Rattle.bfs_checkpoints.specs.Adoption.{HasOtherDigest}
use Rattle.bfs_checkpoints.specs.Keeping.{settled, with_snapshot}
use Rattle.bfs_checkpoints.specs.Outcomes.{NodeHasOtherVersion, NodeIsMalformed, SpellsIllFormedNode}
use Rattle.bfs_checkpoints.specs.Snapshots.{Snapshot, snapshot_of}
use Rattle.bfs_checkpoints.specs.Texts.{SpellsNode, node_digest}
use Rattle.bfs_log.specs.Certificates.{StableCheckpoint, is_shown}
use Rattle.bfs_order.specs.Replica.Installing.{installed}
use Rattle.bfs_replies.specs.Tables.{Table}
use Rattle.bfs_node.specs.Nodes.{Node}
use Rattle.bfs_node.specs.declared.error.NodeError.{NodeError}
use Rattle.bfs_node.specs.declared.error.NodeError.TheVariants as error

-- Whether it may -----------------------------------------------------------------------------------------------------------

-- above the number last executed, or at it where the file system has failed
abbrev pub is_ahead : Node → (number : ℕ) → Bool
is_ahead node number = nat_lt node.order.last number || ((number == node.order.last) && not (is_some node.files))

-- by a checkpoint that is shown to be stable, and is ahead
abbrev pub may_adopt : Node → StableCheckpoint → Bool
may_adopt node checkpoint = is_shown node.keys node.order.f checkpoint && is_ahead node checkpoint.number

-- why a text is not taken over that is to have that digest: it spells no live file system and table, or others
abbrev pub IsTextRefusal : (clients : ℕ) → (text digest : List ℕ) → NodeError → Type 0
IsTextRefusal clients text digest error.MalformedText = NodeIsMalformed clients text
IsTextRefusal clients text digest error.WrongVersion = NodeHasOtherVersion clients text
IsTextRefusal clients text digest error.NotWellFormed = SpellsIllFormedNode clients text
IsTextRefusal clients text digest error.DigestDiffers = HasOtherDigest clients text digest
IsTextRefusal clients text digest other = ⊥

abbrev pub IsRefusalIf : (may : Bool) → (clients : ℕ) → (text digest : List ℕ) → NodeError → Type 0
IsRefusalIf true clients text digest e = IsTextRefusal clients text digest e
IsRefusalIf false clients text digest e = e ≡ error.NoCertificate

-- why an adoption is refused: the CHECKPOINTs are looked at before the text
abbrev pub IsAdoptionRefusal : Node → (text : List ℕ) → StableCheckpoint → NodeError → Type 0
IsAdoptionRefusal node text checkpoint e = IsRefusalIf (may_adopt node checkpoint) (length node.table) text checkpoint.digest e

-- What it leaves -----------------------------------------------------------------------------------------------------------

-- the marks rise to the checkpoint's number, each where it is below; requests stay pending; the snapshot is kept, and it is stable
abbrev pub holding : Node → StableCheckpoint → Option FileSystem → Table → Snapshot → Node
holding node checkpoint files table snapshot = record node {
  order = (installed node.order checkpoint).now;
  files = files;
  table = table;
  snapshots = settled checkpoint (with_snapshot node.snapshots checkpoint.number snapshot);
}

-- it holds just that file system and that table
abbrev pub adopted : Node → StableCheckpoint → FileSystem → Table → Node
adopted node checkpoint files table = holding node checkpoint (Some files) table (snapshot_of files table)

-- it may adopt by the checkpoint, and holds what the text spells, which has the checkpoint's digest
pub record Adopts (node : Node) (text : List ℕ) (checkpoint : StableCheckpoint) (now : Node) : Type 0 where
  pub may : may_adopt node checkpoint ≡ true
  pub files : FileSystem
  pub table : Table
  pub spells : SpellsNode (length node.table) text files table
  pub live : IsLive files
  pub digest : node_digest files table ≡ checkpoint.digest
  pub now_is : now ≡ adopted node checkpoint files table
