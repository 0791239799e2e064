-- From every state that nodes can come into what waits is executed: contracts of functions of src/progress.rt, which do nothing.
use Rattle.std.specs.Prelude.{◌≡◌, ◌⊎◌, ℕ, ◌+◌, ◌≤◌, Bool, true, false, List, ◌++◌, Some}
use Rattle.bfs_messages.specs.Messages as model
use Rattle.bfs_messages.specs.Messages.{Batch}
use Rattle.bfs_messages.specs.declared.signed.Signed.{Signed}
use Rattle.bfs_model.specs.Server.Limits.{log_size}
use Rattle.bfs_model.specs.Server.Stored.{IsTime}
use Rattle.bfs_model.specs.Server.Tree.{FileSystem, Time}
use Rattle.bfs_order.specs.Replica.Proposing.{next_number}
use Rattle.bfs_votes.specs.Votes.{primary, replicas}
use Rattle.bfs_agreement.specs.Histories.{IsIn}
use Rattle.bfs_node.specs.Forgetting.{is_new}
use Rattle.bfs_node.specs.Proposing.{pending_batch}
use Rattle.bfs_nodes_agree.specs.Nodes.Laws.{ComesOfBatches, Executed}
use Rattle.bfs_nodes_agree.specs.Nodes.Replicas.{Beginning, Keyring, NodeReplicas, NodeTurn}
use Rattle.bfs_nodes_progress.specs.Following.{AreMembers, asked_by}
use Rattle.bfs_nodes_progress.specs.Runs.{IsARun, order_of, reached}
use Rattle.bfs_liveness.specs.Even.{AreEven}
use Rattle.bfs_liveness.specs.Exchanges.{ordering}
use Rattle.bfs_liveness.specs.LawsOfExecuting.{HasJustExecuted, HasPlace}
use Rattle.bfs_liveness.specs.Waiting.{HasServed, KeepsWaiting}
use Rattle.bfs_liveness.specs.Ways.{AllSignOf, AreFairTo, HasFuture, HaveViews, IsWay}

-- behind a way members are even in a view that one of them leads, hear one another still, and what waited at each of them waits there
pub record AreReady (f : ℕ) (keys : Keyring) (start : Beginning) (faulty members : ℕ → Bool) (turns way : List NodeTurn) (view low : ℕ) : Type 0 where
  pub leads : members (primary f view) ≡ true
  pub is_way : IsWay members (reached f keys start turns) way
  pub run : IsARun f keys start faulty (turns ++ way)
  pub fair : AreFairTo f keys start faulty members (turns ++ way)
  pub even : AreEven f faulty members (reached f keys start (turns ++ way)) view low
  pub waits : (k : ℕ) → members k ≡ true → (reached f keys start (turns ++ way) k).node.pending ≡ (reached f keys start turns k).node.pending
  pub bounded : AllSignOf members (reached f keys start (turns ++ way)) (low + (log_size + 1))

-- behind a way each member has executed, as that number and the last one, all that waited at the primary of the view before it
pub record AreServed (f : ℕ) (keys : Keyring) (start : Beginning) (faulty members : ℕ → Bool) (turns way : List NodeTurn) (view number : ℕ) (time : Time) : Type 0 where
  pub is_way : IsWay members (reached f keys start turns) way
  pub run : IsARun f keys start faulty (turns ++ way)
  pub executed : (k : ℕ) → members k ≡ true
      → HasJustExecuted (reached f keys start (turns ++ way) k) number (pending_batch (reached f keys start turns (primary f view)).node time)

-- from every state that nodes can come into, whoever lies, there is such a way, to a view at most f + 1 above the latest that a member has asked for
abbrev pub MembersGetReady : Type 0
MembersGetReady = (f : ℕ) (keys : Keyring) (start : Beginning) (faulty members : ℕ → Bool) (turns : List NodeTurn)
    → IsARun f keys start faulty turns → AreMembers f faulty members → AreFairTo f keys start faulty members turns → HasFuture f members (reached f keys start turns)
    → (view low : ℕ) × (way : List NodeTurn) × (latest : ℕ) × (members latest ≡ true) × (view ≤ asked_by (reached f keys start turns) latest + (f + 1))
    × AreReady f keys start faulty members turns way view low

-- and where the primary's next number has place there, it goes on to a way behind which all that waited at that primary is executed at each member
abbrev pub WhatWaitsIsServed : Type 0
WhatWaitsIsServed = (f : ℕ) (keys : Keyring) (start : Beginning) (faulty members : ℕ → Bool) (turns way : List NodeTurn) (view low : ℕ) (time : Time)
    → AreReady f keys start faulty members turns way view low → IsTime time
    → let w = reached f keys start (turns ++ way) in
    let number = next_number (order_of w (primary f view)) in
    HasPlace low number → AreServed f keys start faulty members turns (way ++ ordering f members w view time) view number time

-- behind a way, by which a full window is emptied where it was full, what waited at each member waits there still, or was executed; and each executes by a further
-- one, as that number, all that waits at the primary of the view then
pub record AreServedBehind (f : ℕ) (keys : Keyring) (start : Beginning) (faulty members : ℕ → Bool) (turns before : List NodeTurn) (view : ℕ) (time : Time) : Type 0 where
  pub leads : members (primary f view) ≡ true
  pub before_is_way : IsWay members (reached f keys start turns) before
  pub waits : (k : ℕ) → members k ≡ true → KeepsWaiting (reached f keys start turns k) (reached f keys start (turns ++ before) k)
  pub served : AreServed f keys start faulty members (turns ++ before) (ordering f members (reached f keys start (turns ++ before)) view time) view
      (next_number (order_of (reached f keys start (turns ++ before)) (primary f view))) time

-- from every state that nodes can come into, whoever lies, there is such a way: one finite schedule
abbrev pub EachStateIsServed : Type 0
EachStateIsServed = (f : ℕ) (keys : Keyring) (start : Beginning) (faulty members : ℕ → Bool) (turns : List NodeTurn) (time : Time)
    → IsARun f keys start faulty turns → AreMembers f faulty members → AreFairTo f keys start faulty members turns → HasFuture f members (reached f keys start turns) → IsTime time
    → (view : ℕ) × (before : List NodeTurn) × (latest : ℕ) × (members latest ≡ true) × (view ≤ asked_by (reached f keys start turns) latest + (f + 1))
    × AreServedBehind f keys start faulty members turns before view time

-- Each request --------------------------------------------------------------------------------------------------------

-- a live node has executed that batch as the number, or the number is stable there; and what it holds comes of the batches of all numbers up to one that is not below it
pub record StandsBehind (start : Beginning) (faulty : ℕ → Bool) (w : NodeReplicas) (k number : ℕ) (batch : Batch) : Type 0 where
  pub executed : Executed (w k) number batch ⊎ (number ≤ (order_of w k).low)
  pub up_to : number ≤ (order_of w k).last
  pub files : FileSystem
  pub live : (w k).node.files ≡ Some files
  pub comes : ComesOfBatches start faulty w (order_of w k).last files (w k).node.table

-- a member has executed, as a number, a batch with the request or one of the same client and timestamp, no correct node has executed another batch as that number,
-- and each member stands behind it: to none the request is new, so the last reply to its client, if there is such a client, is to it or to a later one
pub record IsServed (start : Beginning) (faulty members : ℕ → Bool) (w : NodeReplicas) (one : Signed model.Request) : Type 0 where
  pub who : ℕ
  pub member : members who ≡ true
  pub served : HasServed (w who) one
  pub alone : (k : ℕ) (batch : Batch) → faulty k ≡ false → Executed (w k) served.number batch → batch ≡ served.batch
  pub behind : (k : ℕ) → members k ≡ true → StandsBehind start faulty w k served.number served.batch
  pub answered : (k : ℕ) → members k ≡ true → is_new (w k).node.table one ≡ false

-- from every state that nodes can come into, whoever lies, there is one finite schedule behind which each request that waits at every member is served
abbrev pub EachRequestIsExecuted : Type 0
EachRequestIsExecuted = (f : ℕ) (keys : Keyring) (start : Beginning) (faulty members : ℕ → Bool) (turns : List NodeTurn) (time : Time)
    → IsARun f keys start faulty turns → AreMembers f faulty members → AreFairTo f keys start faulty members turns → HasFuture f members (reached f keys start turns) → IsTime time
    → (way : List NodeTurn)
    × IsWay members (reached f keys start turns) way
    × IsARun f keys start faulty (turns ++ way)
    × ((one : Signed model.Request) → ((k : ℕ) → members k ≡ true → IsIn one (reached f keys start turns k).node.pending)
    → IsServed start faulty members (reached f keys start (turns ++ way)) one)

-- and for each member there is one behind which each request that waits at that one is served: it leads one of 3f + 1 views in a row
abbrev pub WhatWaitsAtOneIsExecuted : Type 0
WhatWaitsAtOneIsExecuted = (f : ℕ) (keys : Keyring) (start : Beginning) (faulty members : ℕ → Bool) (turns : List NodeTurn) (k : ℕ) (time : Time)
    → IsARun f keys start faulty turns → AreMembers f faulty members → AreFairTo f keys start faulty members turns → HasFuture f members (reached f keys start turns)
    → HaveViews members (reached f keys start turns) (replicas f) → IsTime time → members k ≡ true
    → (way : List NodeTurn)
    × IsWay members (reached f keys start turns) way
    × IsARun f keys start faulty (turns ++ way)
    × ((one : Signed model.Request) → IsIn one (reached f keys start turns k).node.pending → IsServed start faulty members (reached f keys start (turns ++ way)) one)
