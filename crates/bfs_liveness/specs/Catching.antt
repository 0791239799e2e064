-- Members come up to the greatest number that one of them has stable (OSDI 1999 section 4.3).
use Rattle.std.specs.Prelude.{◌≡◌, ◌⊎◌, ℕ, ◌+◌, ◌<◌, ◌≤◌, max, Bool, true, List, ◌++◌}
use Rattle.bfs_agreement.specs.Histories.{IsIn}
use Rattle.bfs_checkpoints.specs.Keeping.{Kept}
use Rattle.bfs_messages.specs.Messages as model
use Rattle.bfs_node.specs.Nodes.{Node}
use Rattle.bfs_order.specs.Replica.Proposing.{next_number}
use Rattle.bfs_nodes_agree.specs.Nodes.Replicas.{Beginning, Keyring, NodeReplicas, NodeTurn}
use Rattle.bfs_nodes_progress.specs.Runs.{IsARun, order_of, reached}
use Rattle.bfs_liveness.specs.Even.{AreEven}
use Rattle.bfs_liveness.specs.Ways.{AreFairTo, IsWay}

-- a node keeps a snapshot of that number and digest, or a later number is stable there
abbrev pub StillKeeps : Node → model.Checkpoint → Type 0
StillKeeps node c = (c.number < node.order.low) ⊎ ((kept : Kept) × IsIn kept node.snapshots.kept × (kept.number ≡ c.number) × (kept.snapshot.digest ≡ c.digest))

-- it is the low mark of a member, and that of none is above it
pub record IsGreatestLow (members : ℕ → Bool) (w : NodeReplicas) (number : ℕ) : Type 0 where
  pub who : ℕ
  pub member : members who ≡ true
  pub low : (order_of w who).low ≡ number
  pub greatest : (k : ℕ) → members k ≡ true → (order_of w k).low ≤ number

-- by a way of members, behind which they hear one another still, are even in the view, nothing that waited has gone, and nothing is proposed above that number
pub record ComeUp (f : ℕ) (keys : Keyring) (start : Beginning) (faulty members : ℕ → Bool) (turns way : List NodeTurn) (view number : ℕ) : Type 0 where
  pub is_way : IsWay members (reached f keys start turns) way
  pub run : IsARun f keys start faulty (turns ++ way)
  pub fair : AreFairTo f keys start faulty members (turns ++ way)
  pub even : AreEven f faulty members (reached f keys start (turns ++ way)) view number
  pub pending : (k : ℕ) → (reached f keys start (turns ++ way) k).node.pending ≡ (reached f keys start turns k).node.pending
  pub next : (k : ℕ) → members k ≡ true → next_number (order_of (reached f keys start (turns ++ way)) k) ≤ max (next_number (order_of (reached f keys start turns) k)) (number + 1)
