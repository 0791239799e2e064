-- Nodes that are behind come up to a checkpoint of others (OSDI 1999 section 4.3).
use Rattle.std.specs.Prelude.{◌≡◌, ℕ, ◌≤◌, Bool, true, List, [], ◌∷◌, ◌++◌, Some, if◌then◌else◌}
use Rattle.bfs_auth.specs.Keys.{Keys}
use Rattle.bfs_checkpoints.specs.Collecting.{collected}
use Rattle.bfs_checkpoints.specs.Keeping.{Kept}
use Rattle.bfs_checkpoints.specs.Snapshots.{snapshot_of}
use Rattle.bfs_log.specs.Certificates.{StableCheckpoint}
use Rattle.bfs_messages.specs.Messages as model
use Rattle.bfs_messages.specs.Signing.{as_message, order_is_signed}
use Rattle.bfs_messages.specs.declared.signed.Signed.{Signed}
use Rattle.bfs_messages.specs.declared.message.Message.TheVariants.{Order}
use Rattle.bfs_messages.specs.declared.order_messages.OrderMessage.TheVariants.{Checkpoint}
use Rattle.bfs_model.specs.Server.Tree.{FileSystem}
use Rattle.bfs_replies.specs.Tables.{Table}
use Rattle.bfs_agreement.specs.Histories.{IsIn}
use Rattle.bfs_node.specs.Adopting.{is_ahead}
use Rattle.bfs_node.specs.Nodes.{Node}
use Rattle.bfs_nodes_agree.specs.Nodes.Premises.{IsAuthentic}
use Rattle.bfs_nodes_agree.specs.Nodes.Replicas.{Beginning, Keyring, NodeReplicas, NodeTurn, Standing, NodeReplica}
use Rattle.bfs_nodes_agree.specs.Nodes.Steps.{NodeStep, Adopts, Settles}
use Rattle.bfs_nodes_progress.specs.Following.{AreMembers, each_takes}
use Rattle.bfs_nodes_progress.specs.Runs.{IsARun, reached}
use Rattle.bfs_votes.specs.Votes.{replicas}

-- The call ------------------------------------------------------------------------------------------------------------

-- by a checkpoint that is shown to it a node adopts the state where it has not executed up to it, or its file system has failed there, and settles it else
abbrev pub catching_up : Node → StableCheckpoint → FileSystem → Table → NodeStep
catching_up node checkpoint files table = if is_ahead node checkpoint.number then Adopts checkpoint files table else Settles checkpoint

-- the number is stable there, or a later one, and what it has executed, or adopted, goes up to it
pub record IsUpTo (number : ℕ) (node : Node) : Type 0 where
  pub stable : number ≤ node.order.low
  pub last : number ≤ node.order.last

-- What others have ----------------------------------------------------------------------------------------------------

-- a snapshot that a node keeps is of a state that it was in at that number, by executing or adopting
pub record IsOfAState (r : NodeReplica) (kept : Kept) : Type 0 where
  pub standing : Standing
  pub reached : IsIn standing r.reached
  pub number : standing.number ≡ kept.number
  pub snapshot : kept.snapshot ≡ snapshot_of standing.files standing.table

-- among these CHECKPOINTs is one of that sender and number, right by these keys
pub record HasTold (keys : Keys) (number sender : ℕ) (told : List (Signed model.Checkpoint)) : Type 0 where
  pub checkpoint : Signed model.Checkpoint
  pub among : IsIn checkpoint told
  pub by : checkpoint.message.sender ≡ sender
  pub of_number : checkpoint.message.number ≡ number
  pub signed : order_is_signed keys (as_message Checkpoint checkpoint) ≡ true

-- there is one of each of 2f + 1 correct nodes, whatever others there are; none under a correct one's name is forged
pub record AreTold (f : ℕ) (faulty tellers : ℕ → Bool) (w : NodeReplicas) (keys : Keys) (number : ℕ) (told : List (Signed model.Checkpoint)) : Type 0 where
  pub tellers_are : AreMembers f faulty tellers
  pub each : (k : ℕ) → tellers k ≡ true → HasTold keys number k told
  pub authentic : (c : Signed model.Checkpoint) → IsIn c told → IsAuthentic faulty w keys (as_message Order (as_message Checkpoint c))

-- One comes up to it --------------------------------------------------------------------------------------------------

-- the turn by which a node does
abbrev pub catching_turn : NodeReplicas → (who : ℕ) → StableCheckpoint → FileSystem → Table → NodeTurn
catching_turn w who checkpoint files table = record { who = who; step = catching_up (w who).node checkpoint files table }

-- what it collects of these CHECKPOINTs shows the checkpoint, and by it and by the state of the snapshot it takes a turn that leaves it up to the number
pub record ComesUp (f : ℕ) (keys : Keyring) (start : Beginning) (faulty : ℕ → Bool) (turns : List NodeTurn) (who : ℕ) (kept : Kept) (told : List (Signed model.Checkpoint)) : Type 0 where
  pub checkpoint : StableCheckpoint
  pub collects : collected (keys who) f kept.number kept.snapshot.digest told ≡ Some checkpoint
  pub files : FileSystem
  pub table : Table
  pub state : kept.snapshot ≡ snapshot_of files table
  pub run : IsARun f keys start faulty (turns ++ catching_turn (reached f keys start turns) who checkpoint files table ∷ [])
  pub up : IsUpTo kept.number (reached f keys start (turns ++ catching_turn (reached f keys start turns) who checkpoint files table ∷ []) who).node

-- Many do -------------------------------------------------------------------------------------------------------------

-- each member takes such a turn, by its own certificate
abbrev pub all_catch_up : (f : ℕ) (members : ℕ → Bool) → NodeReplicas → (shown : ℕ → StableCheckpoint) → FileSystem → Table → List NodeTurn
all_catch_up f members w shown files table = each_takes (λ k. if members k then catching_turn w k (shown k) files table ∷ [] else []) (replicas f)
