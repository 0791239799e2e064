-- The statements on what members execute: contracts of functions of src/executing.rt, which do nothing.
use Rattle.std.specs.Prelude.{◌≡◌, ℕ, ◌+◌, ◌%◌, ◌<◌, ◌≤◌, max, Bool, true, false, is_some, List, ◌++◌}
use Rattle.bfs_messages.specs.Messages.{Batch}
use Rattle.bfs_model.specs.Server.Limits.{checkpoint_interval, log_size, most_number}
use Rattle.bfs_model.specs.Server.Stored.{IsTime}
use Rattle.bfs_model.specs.Server.Tree.{Time}
use Rattle.bfs_order.specs.Laws.Calls.{IsKept}
use Rattle.bfs_order.specs.Replica.Proposing.{next_number}
use Rattle.bfs_order.specs.Replica.States.{State, known}
use Rattle.bfs_votes.specs.Votes.{is_stable, primary}
use Rattle.bfs_node.specs.Proposing.{pending_batch}
use Rattle.bfs_nodes_agree.specs.Nodes.Laws.{Executed}
use Rattle.bfs_nodes_agree.specs.Nodes.Replicas.{Beginning, Keyring, NodeReplica, NodeReplicas, NodeTurn}
use Rattle.bfs_nodes_progress.specs.Members.{AreTogether, IsProposed, is_committed}
use Rattle.bfs_nodes_progress.specs.Runs.{IsARun, order_of, reached}
use Rattle.bfs_liveness.specs.Even.{AreEven}
use Rattle.bfs_liveness.specs.Exchanges.{emptying, ordering, three_exchanges}
use Rattle.bfs_liveness.specs.Ways.{AllSignOf, AreFairTo, IsWay}

-- What has been proposed ----------------------------------------------------------------------------------------------

-- the primary has a PRE-PREPARE of a digest for the number
abbrev pub SomeIsProposed : (f : ℕ) → NodeReplicas → (view number : ℕ) → Type 0
SomeIsProposed f w view number = (digest : List ℕ) × IsProposed f w view number digest

-- a correct primary that has entered its view has a PRE-PREPARE for each number between its low mark, or what the view begins behind, and the next one
-- (OSDI 1999 sections 4.2 and 4.4)
abbrev pub NoneIsLeftOut : Type 0
NoneIsLeftOut = (f : ℕ) (keys : Keyring) (start : Beginning) (faulty : ℕ → Bool) (turns : List NodeTurn) (view number : ℕ)
    → IsARun f keys start faulty turns → faulty (primary f view) ≡ false
    → let order = order_of (reached f keys start turns) (primary f view) in
    order.view ≡ view → max order.low order.min_s < number → number < next_number order
    → SomeIsProposed f (reached f keys start turns) view number

-- and what a correct node in the view has executed above its low mark is below that
abbrev pub NoneIsBeyond : Type 0
NoneIsBeyond = (f : ℕ) (keys : Keyring) (start : Beginning) (faulty : ℕ → Bool) (turns : List NodeTurn) (view k : ℕ)
    → IsARun f keys start faulty turns → faulty k ≡ false → faulty (primary f view) ≡ false
    → let w = reached f keys start turns in
    (order_of w k).view ≡ view → (order_of w (primary f view)).view ≡ view → (order_of w k).low < (order_of w k).last
    → (order_of w k).last < next_number (order_of w (primary f view))

-- no number above the low mark has CHECKPOINTs of 2f + 1 replicas of one digest in the log: the low mark rises with them (OSDI 1999 section 4.3)
abbrev pub IsSettled : State → Type 0
IsSettled s = (number : ℕ) (digest : List ℕ) → is_stable s.f (known s) number digest ≡ true → number ≤ s.low

-- so it is after each call of an order
abbrev pub WhatIsStableIsSettled : Type 0
WhatIsStableIsSettled = IsKept IsSettled

-- Exchanges -----------------------------------------------------------------------------------------------------------

-- behind three exchanges each member has committed a batch for the number
abbrev pub SomeIsCommitted : (members : ℕ → Bool) → NodeReplicas → (view number : ℕ) → Type 0
SomeIsCommitted members w view number = (digest : List ℕ) × ((k : ℕ) → members k ≡ true → is_committed (order_of w k) view number digest ≡ true)

-- where members are even, three exchanges are a way, behind which they are even still, and all that the primary had proposed is committed at each
abbrev pub ExchangesCommit : Type 0
ExchangesCommit = (f : ℕ) (keys : Keyring) (start : Beginning) (faulty members : ℕ → Bool) (turns : List NodeTurn) (view low : ℕ)
    → let w = reached f keys start turns in
    let way = three_exchanges f members w in
    IsARun f keys start faulty turns
    → AreFairTo f keys start faulty members turns
    → AreEven f faulty members w view low
    → IsWay members w way
    × IsARun f keys start faulty (turns ++ way)
    × AreEven f faulty members (reached f keys start (turns ++ way)) view low
    × ((number : ℕ) → low < number → number ≤ low + log_size → SomeIsProposed f w view number
    → SomeIsCommitted members (reached f keys start (turns ++ way)) view number)

-- What waits ----------------------------------------------------------------------------------------------------------

-- a number that can be proposed: the primary's window is not full
abbrev pub HasPlace : (low next : ℕ) → Type 0
HasPlace low next = (next ≤ low + log_size) × (next ≤ most_number)

-- it has executed that batch as the number, and nothing behind it, and its file system has not failed
pub record HasJustExecuted (r : NodeReplica) (number : ℕ) (batch : Batch) : Type 0 where
  pub executed : Executed r number batch
  pub last : r.node.order.last ≡ number
  pub live : is_some r.node.files ≡ true

-- where members are even, and the primary's next number has room and can be signed, ordering is a way behind which each has executed the batch of what waited there
abbrev pub WhatWaitsIsExecuted : Type 0
WhatWaitsIsExecuted = (f : ℕ) (keys : Keyring) (start : Beginning) (faulty members : ℕ → Bool) (turns : List NodeTurn) (view low : ℕ) (time : Time)
    → let w = reached f keys start turns in
    let node = (w (primary f view)).node in
    let number = next_number node.order in
    let way = ordering f members w view time in
    IsARun f keys start faulty turns
    → AreFairTo f keys start faulty members turns
    → AreEven f faulty members w view low
    → HasPlace low number
    → AllSignOf members w number
    → IsTime time
    → IsWay members w way
    × IsARun f keys start faulty (turns ++ way)
    × ((k : ℕ) → members k ≡ true → HasJustExecuted (reached f keys start (turns ++ way) k) number (pending_batch node time))

-- A full window -------------------------------------------------------------------------------------------------------

-- the primary has proposed the last number of its window, which is the number of a checkpoint
pub record IsFull (low next : ℕ) : Type 0 where
  pub to_its_end : next ≡ low + log_size + 1
  pub multiple : ((low + log_size) % checkpoint_interval) ≡ 0
  pub bounded : low + log_size ≤ most_number

-- members are together, at the primary the number is stable, and none above it is stable at a member or proposed
pub record IsEmptied (f : ℕ) (faulty members : ℕ → Bool) (w : NodeReplicas) (view number : ℕ) : Type 0 where
  pub together : AreTogether f faulty members w view
  pub live : (k : ℕ) → members k ≡ true → is_some (w k).node.files ≡ true
  pub low : (order_of w (primary f view)).low ≡ number
  pub lows : (k : ℕ) → members k ≡ true → (order_of w k).low ≤ number
  pub next : next_number (order_of w (primary f view)) ≤ number + 1

-- where the window of even members is full, emptying it is a way
abbrev pub FullWindowsAreEmptied : Type 0
FullWindowsAreEmptied = (f : ℕ) (keys : Keyring) (start : Beginning) (faulty members : ℕ → Bool) (turns : List NodeTurn) (view low : ℕ)
    → let w = reached f keys start turns in
    let way = emptying f members w view (low + log_size) in
    IsARun f keys start faulty turns
    → AreFairTo f keys start faulty members turns
    → AreEven f faulty members w view low
    → IsFull low (next_number (order_of w (primary f view)))
    → IsWay members w way
    × IsARun f keys start faulty (turns ++ way)
    × IsEmptied f faulty members (reached f keys start (turns ++ way)) view (low + log_size)
