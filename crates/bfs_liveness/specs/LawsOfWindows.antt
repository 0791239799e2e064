-- The statements on full windows: contracts of functions of src/window.rt, which do nothing.
use Rattle.std.specs.Prelude.{◌≡◌, ℕ, ◌+◌, ◌%◌, ◌<◌, ◌≤◌, max, Bool, true, List, ◌++◌}
use Rattle.bfs_auth.specs.Keys.{Keys}
use Rattle.bfs_log.specs.Certificates.{StableCheckpoint, is_shown}
use Rattle.bfs_messages.specs.Messages as model
use Rattle.bfs_messages.specs.declared.message.Message.{Message}
use Rattle.bfs_messages.specs.declared.message.Message.TheVariants.{Order}
use Rattle.bfs_messages.specs.declared.order_messages.OrderMessage.TheVariants.{Checkpoint}
use Rattle.bfs_messages.specs.declared.signed.Signed.{Signed}
use Rattle.bfs_model.specs.Server.Limits.{checkpoint_interval, log_size, most_number}
use Rattle.bfs_order.specs.Replica.Installing.{installed}
use Rattle.bfs_order.specs.Replica.Proposing.{next_number}
use Rattle.bfs_order.specs.Replica.States.{State}
use Rattle.bfs_votes.specs.Votes.{primary}
use Rattle.bfs_agreement.specs.Histories.{IsIn}
use Rattle.bfs_nodes_agree.specs.Nodes.Replicas.{Beginning, Keyring, NodeTurn}
use Rattle.bfs_nodes_progress.specs.Following.{AreMembers}
use Rattle.bfs_nodes_progress.specs.Runs.{IsARun, order_of, reached}
use Rattle.bfs_liveness.specs.Even.{AreEven}
use Rattle.bfs_liveness.specs.Waiting.{KeepsWaiting}
use Rattle.bfs_liveness.specs.Ways.{AreFairTo, IsWay}

-- each CHECKPOINT that a node has sent is of a multiple of the interval (OSDI 1999 section 4.3)
abbrev pub CheckpointsAreOfMultiples : Type 0
CheckpointsAreOfMultiples = (f : ℕ) (keys : Keyring) (start : Beginning) (faulty : ℕ → Bool) (turns : List NodeTurn) (k : ℕ) (s : Signed Message) (c : model.Checkpoint)
    → IsARun f keys start faulty turns → IsIn s (reached f keys start turns k).sent → s.message ≡ Order (Checkpoint c) → (c.number % checkpoint_interval) ≡ 0

-- so is each low mark
abbrev pub WhatIsStableIsAMultiple : Type 0
WhatIsStableIsAMultiple = (f : ℕ) (keys : Keyring) (start : Beginning) (faulty members : ℕ → Bool) (turns : List NodeTurn) (k : ℕ)
    → IsARun f keys start faulty turns → AreMembers f faulty members → ((order_of (reached f keys start turns) k).low % checkpoint_interval) ≡ 0

-- no next number lies more than one above the high mark
abbrev pub WindowsAreBounded : Type 0
WindowsAreBounded = (f : ℕ) (keys : Keyring) (start : Beginning) (faulty : ℕ → Bool) (turns : List NodeTurn) (k : ℕ)
    → IsARun f keys start faulty turns
    → let order = order_of (reached f keys start turns) k in
    next_number order ≤ order.low + log_size + 1

-- a certificate that is installed raises the next number at most to the one behind its own
abbrev pub CatchingUpProposesNothing : Type 0
CatchingUpProposesNothing = (keys : Keys) (s : State) (c : StableCheckpoint) → is_shown keys s.f c ≡ true → next_number (installed s c).now ≤ max (next_number s) (c.number + 1)

-- where the window of even members is full, there is a way behind which they are even with the number at its end, the primary has proposed nothing above it, and what waited at
-- each waits there still, or was executed
abbrev pub FullWindowsGoOn : Type 0
FullWindowsGoOn = (f : ℕ) (keys : Keyring) (start : Beginning) (faulty members : ℕ → Bool) (turns : List NodeTurn) (view low : ℕ)
    → let w = reached f keys start turns in
    let end = low + log_size in
    IsARun f keys start faulty turns
    → AreFairTo f keys start faulty members turns
    → AreEven f faulty members w view low
    → end < next_number (order_of w (primary f view))
    → end < most_number
    → (way : List NodeTurn)
    × IsWay members w way
    × IsARun f keys start faulty (turns ++ way)
    × AreFairTo f keys start faulty members (turns ++ way)
    × AreEven f faulty members (reached f keys start (turns ++ way)) view end
    × (next_number (order_of (reached f keys start (turns ++ way)) (primary f view)) ≤ end + 1)
    × ((k : ℕ) → members k ≡ true → KeepsWaiting (w k) (reached f keys start (turns ++ way) k))
