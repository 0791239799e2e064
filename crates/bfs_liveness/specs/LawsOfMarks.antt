-- The statements on what members have stable: contracts of functions of src/marks.rt, which do nothing.
use Rattle.std.specs.Prelude.{◌≡◌, ℕ, ◌≤◌, Bool, true, List}
use Rattle.bfs_nodes_agree.specs.Nodes.Replicas.{Beginning, Keyring, NodeTurn}
use Rattle.bfs_nodes_progress.specs.Following.{AreMembers}
use Rattle.bfs_nodes_progress.specs.Runs.{IsARun, order_of, reached}

-- no low mark lies above all that members have executed (OSDI 1999 section 4.3)
abbrev pub WhatIsStableWasExecuted : Type 0
WhatIsStableWasExecuted = (f : ℕ) (keys : Keyring) (start : Beginning) (faulty members : ℕ → Bool) (turns : List NodeTurn) (k : ℕ)
    → IsARun f keys start faulty turns → AreMembers f faulty members
    → (j : ℕ) × (members j ≡ true) × ((order_of (reached f keys start turns) k).low ≤ (order_of (reached f keys start turns) j).last)
