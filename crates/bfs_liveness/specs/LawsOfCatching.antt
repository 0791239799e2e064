-- The statements on how members come up to one number: contracts of functions of src/catching.rt, which do nothing.
use Rattle.std.specs.Prelude.{◌≡◌, ℕ, ◌≤◌, Bool, true, is_some, List}
use Rattle.bfs_messages.specs.Messages as model
use Rattle.bfs_messages.specs.declared.message.Message.{Message}
use Rattle.bfs_messages.specs.declared.message.Message.TheVariants.{Order}
use Rattle.bfs_messages.specs.declared.order_messages.OrderMessage.TheVariants.{Checkpoint}
use Rattle.bfs_messages.specs.declared.signed.Signed.{Signed}
use Rattle.bfs_agreement.specs.Histories.{IsIn}
use Rattle.bfs_nodes_agree.specs.Nodes.Replicas.{Beginning, Keyring, NodeTurn}
use Rattle.bfs_nodes_progress.specs.Members.{AreTogether}
use Rattle.bfs_nodes_progress.specs.Runs.{IsARun, order_of, reached}
use Rattle.bfs_liveness.specs.Catching.{ComeUp, IsGreatestLow, StillKeeps}
use Rattle.bfs_liveness.specs.Ways.{AreFairTo}

-- of each CHECKPOINT that a node has sent it keeps the snapshot, unless a later number is stable there
abbrev pub ToldSnapshotsStay : Type 0
ToldSnapshotsStay = (f : ℕ) (keys : Keyring) (start : Beginning) (faulty : ℕ → Bool) (turns : List NodeTurn) (k : ℕ) (s : Signed Message) (c : model.Checkpoint)
    → IsARun f keys start faulty turns → IsIn s (reached f keys start turns k).sent → s.message ≡ Order (Checkpoint c) → StillKeeps (reached f keys start turns k).node c

-- no view begins behind a number that is not stable at a node that has entered it
abbrev pub ViewsBeginBehind : Type 0
ViewsBeginBehind = (f : ℕ) (keys : Keyring) (start : Beginning) (faulty : ℕ → Bool) (turns : List NodeTurn) (k : ℕ)
    → IsARun f keys start faulty turns → (order_of (reached f keys start turns) k).min_s ≤ (order_of (reached f keys start turns) k).low

-- where members are together in a view, and no file system has failed, there is a way by which they come up to the greatest number that one of them has stable
abbrev pub MembersComeUp : Type 0
MembersComeUp = (f : ℕ) (keys : Keyring) (start : Beginning) (faulty members : ℕ → Bool) (turns : List NodeTurn) (view : ℕ)
    → IsARun f keys start faulty turns → AreFairTo f keys start faulty members turns
    → AreTogether f faulty members (reached f keys start turns) view
    → ((k : ℕ) → members k ≡ true → is_some (reached f keys start turns k).node.files ≡ true)
    → (number : ℕ) × IsGreatestLow members (reached f keys start turns) number
    × (way : List NodeTurn) × ComeUp f keys start faulty members turns way view number
