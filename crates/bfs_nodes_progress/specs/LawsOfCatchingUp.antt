-- The statements of CatchingUp that are proved: contracts of functions of src/laws.rt, which do nothing.
use Rattle.std.specs.Prelude.{◌≡◌, ℕ, ◌+◌, ◌<◌, ◌≤◌, Bool, true, false, List, ◌++◌, Some}
use Rattle.bfs_checkpoints.specs.Keeping.{Kept}
use Rattle.bfs_checkpoints.specs.Texts.{node_digest}
use Rattle.bfs_log.specs.Certificates.{StableCheckpoint, is_shown}
use Rattle.bfs_messages.specs.Messages as model
use Rattle.bfs_messages.specs.declared.signed.Signed.{Signed}
use Rattle.bfs_messages.specs.declared.message.Message.{Message}
use Rattle.bfs_messages.specs.declared.message.Message.TheVariants.{Order}
use Rattle.bfs_messages.specs.declared.order_messages.OrderMessage.TheVariants.{Checkpoint}
use Rattle.bfs_model.specs.Server.Tree.{FileSystem}
use Rattle.bfs_order.specs.Replica.Installing.{installed}
use Rattle.bfs_replies.specs.Tables.{Table}
use Rattle.bfs_votes.specs.Votes.{replicas}
use Rattle.bfs_agreement.specs.Histories.{IsIn}
use Rattle.bfs_node.specs.Adopting.{is_ahead}
use Rattle.bfs_node.specs.Nodes.{Node}
use Rattle.bfs_nodes_agree.specs.Nodes.Laws.{BatchesDontCollide}
use Rattle.bfs_nodes_agree.specs.Nodes.Premises.{StatesDontCollide}
use Rattle.bfs_nodes_agree.specs.Nodes.Replicas.{Beginning, Keyring, NodeTurn, after_node_turns}
use Rattle.bfs_nodes_agree.specs.Nodes.Steps.{outcome}
use Rattle.bfs_nodes_progress.specs.CatchingUp.{AreTold, ComesUp, IsOfAState, IsUpTo, all_catch_up, catching_up}
use Rattle.bfs_nodes_progress.specs.Members.{HasRoom}
use Rattle.bfs_nodes_progress.specs.Runs.{IsARun, order_of, reached}

-- by a checkpoint that is shown, with a state of its digest, a node's marks rise to its number, each where it is below; and it holds that state where it had
-- not executed up to it
abbrev pub CatchingUpInstalls : Type 0
CatchingUpInstalls = (node : Node) (checkpoint : StableCheckpoint) (files : FileSystem) (table : Table)
    → is_shown node.keys node.order.f checkpoint ≡ true → node_digest files table ≡ checkpoint.digest
    → ((outcome node (catching_up node checkpoint files table)).now.order ≡ (installed node.order checkpoint).now)
    × (is_ahead node checkpoint.number ≡ true
    → ((outcome node (catching_up node checkpoint files table)).now.files ≡ Some files) × ((outcome node (catching_up node checkpoint files table)).now.table ≡ table))

-- each snapshot that a node keeps is of a state that it was in
abbrev pub SnapshotsAreOfStates : Type 0
SnapshotsAreOfStates = (f : ℕ) (keys : Keyring) (start : Beginning) (faulty : ℕ → Bool) (turns : List NodeTurn) (j : ℕ) (kept : Kept)
    → IsARun f keys start faulty turns → IsIn kept (reached f keys start turns j).node.snapshots.kept → IsOfAState (reached f keys start turns j) kept

-- and each CHECKPOINT that a correct node has sent of its number tells its digest
abbrev pub CheckpointsTellSnapshots : Type 0
CheckpointsTellSnapshots = (f : ℕ) (keys : Keyring) (start : Beginning) (faulty : ℕ → Bool) (turns : List NodeTurn) (j k : ℕ) (kept : Kept) (s : Signed Message) (c : model.Checkpoint)
    → IsARun f keys start faulty turns → BatchesDontCollide faulty (reached f keys start turns) → StatesDontCollide faulty (reached f keys start turns)
    → faulty j ≡ false → faulty k ≡ false
    → IsIn kept (reached f keys start turns j).node.snapshots.kept → IsIn s (reached f keys start turns k).sent → s.message ≡ Order (Checkpoint c) → c.number ≡ kept.number
    → c.digest ≡ kept.snapshot.digest

-- a node that is given a snapshot of a correct one, and CHECKPOINTs of its number that 2f + 1 correct nodes have sent and that are right by its keys, with
-- whatever others, comes up to that number by one turn
abbrev pub WhoIsBehindComesUp : Type 0
WhoIsBehindComesUp = (f : ℕ) (keys : Keyring) (start : Beginning) (faulty tellers : ℕ → Bool) (turns : List NodeTurn) (who j : ℕ) (kept : Kept) (told : List (Signed model.Checkpoint))
    → IsARun f keys start faulty turns → BatchesDontCollide faulty (reached f keys start turns) → StatesDontCollide faulty (reached f keys start turns)
    → faulty j ≡ false → IsIn kept (reached f keys start turns j).node.snapshots.kept
    → AreTold f faulty tellers (reached f keys start turns) (keys who) kept.number told
    → ComesUp f keys start faulty turns who kept told

-- whatever comes then, it stays so
abbrev pub UpStaysUp : Type 0
UpStaysUp = (f : ℕ) (keys : Keyring) (start : Beginning) (faulty : ℕ → Bool) (turns further : List NodeTurn) (k number : ℕ)
    → IsARun f keys start faulty (turns ++ further) → IsUpTo number (reached f keys start turns k).node → IsUpTo number (reached f keys start (turns ++ further) k).node

-- where a checkpoint is shown to each member by its keys, with a state of its digest, and each takes that turn, all are up to its number; and the next number
-- has room at each, where none has a later number stable and the views of none begin behind a later one
abbrev pub AllComeUp : Type 0
AllComeUp = (f : ℕ) (keys : Keyring) (start : Beginning) (faulty members : ℕ → Bool) (turns : List NodeTurn) (shown : ℕ → StableCheckpoint) (files : FileSystem) (table : Table) (number : ℕ)
    → IsARun f keys start faulty turns
    → ((k : ℕ) → members k ≡ true → k < replicas f)
    → ((k : ℕ) → members k ≡ true → (is_shown (keys k) f (shown k) ≡ true) × ((shown k).number ≡ number) × ((shown k).digest ≡ node_digest files table))
    → let after = after_node_turns (reached f keys start turns) (all_catch_up f members (reached f keys start turns) shown files table) in
    ((k : ℕ) → members k ≡ true → IsUpTo number (after k).node)
    × (((k : ℕ) → members k ≡ true → (order_of (reached f keys start turns) k).low ≤ number)
    → ((k : ℕ) → members k ≡ true → (order_of (reached f keys start turns) k).min_s ≤ number) → HasRoom members after (number + 1))
