-- Ways on: turns that a fair host has members take, one after another. Members are 2f + 1 correct nodes or more.
use Rattle.std.specs.Prelude.{◌≡◌, ◌⊎◌, ℕ, ◌+◌, ◌-◌, ◌<◌, ◌^◌, min, Bool, true, is_some, List, [], ◌∷◌, ◌++◌, Option, Some, None}
use Rattle.lms.specs.Signers.{HssKey, count_below}
use Rattle.bfs_agreement.specs.Histories.{IsIn}
use Rattle.bfs_auth.specs.Places.{view_count}
use Rattle.bfs_checkpoints.specs.Keeping.{Kept}
use Rattle.bfs_checkpoints.specs.Snapshots.{snapshot_of}
use Rattle.bfs_log.specs.Certificates.{StableCheckpoint}
use Rattle.bfs_log.specs.Headers.{header}
use Rattle.bfs_messages.specs.Fits.{FitsMessage}
use Rattle.bfs_messages.specs.Messages as model
use Rattle.bfs_messages.specs.declared.order_messages.OrderMessage.{OrderMessage}
use Rattle.bfs_messages.specs.declared.signed.Signed.{Signed}
use Rattle.bfs_messages.specs.declared.message.Message.{Message}
use Rattle.bfs_model.specs.Server.Limits.{log_size}
use Rattle.bfs_model.specs.Server.Stored.{IsTime}
use Rattle.bfs_model.specs.Server.Tree.{FileSystem}
use Rattle.bfs_node.specs.Resending.{resent}
use Rattle.bfs_nodes_agree.specs.Nodes.Laws.{BatchesDontCollide}
use Rattle.bfs_nodes_agree.specs.Nodes.Premises.{StatesDontCollide}
use Rattle.bfs_nodes_agree.specs.Nodes.Replicas.{Beginning, Keyring, NodeReplica, NodeReplicas, NodeTurn, after_node_turn}
use Rattle.bfs_nodes_agree.specs.Nodes.Steps.{NodeStep, Delivers, Takes, TakesRequests, TakesOffered, Proposes, Fails, TimesOut, LeavesFor, Adopts, Settles}
use Rattle.bfs_nodes_progress.specs.Begun.{new_view_passes}
use Rattle.bfs_nodes_progress.specs.Following.{asked_by}
use Rattle.bfs_nodes_progress.specs.Rounds.{passes}
use Rattle.bfs_nodes_progress.specs.Runs.{order_of, reached}
use Rattle.bfs_order.specs.Replica.Proposing.{next_number}
use Rattle.bfs_order.specs.declared.resending.Lag.{Lag}
use Rattle.bfs_replies.specs.Tables.{Table}
use Rattle.bfs_view_change.specs.Changes.Making.{change_of}
use Rattle.bfs_view_change.specs.Changes.ViewChanges.{has_stable, stable_in, valid_view_change}

-- What a host may have a member do ------------------------------------------------------------------------------------

-- a node has sent it, or gives it again to one that is so far
abbrev pub Gives : NodeReplica → Signed Message → Type 0
Gives r m = IsIn m r.sent ⊎ ((to : Lag) × IsIn m (resent r.node to))

-- the checkpoint that a node's log shows to be stable: that of its low mark
abbrev pub stable_of : NodeReplicas → (k : ℕ) → StableCheckpoint
stable_of w k = stable_in (change_of (order_of w k) 0)

-- a member's log shows it
abbrev pub IsAMembers : (members : ℕ → Bool) → NodeReplicas → StableCheckpoint → Type 0
IsAMembers members w checkpoint = (j : ℕ) × (members j ≡ true) × (checkpoint ≡ stable_of w j)

-- and a member keeps a snapshot of that number, which is of this state
abbrev pub IsOffered : (members : ℕ → Bool) → NodeReplicas → StableCheckpoint → FileSystem → Table → Type 0
IsOffered members w checkpoint files table = (i : ℕ) × (kept : Kept) × (members i ≡ true) × IsIn kept (w i).node.snapshots.kept
    × (kept.number ≡ checkpoint.number) × (kept.snapshot ≡ snapshot_of files table)

-- in how many views it can sign, and of how many numbers in each: by keyed hashes of all 2^63, by a key of as many as that has
abbrev pub views_of : Option HssKey → ℕ
views_of None = 2 ^ 63
views_of (Some key) = min (2 ^ 63) (view_count key)

abbrev pub numbers_of : Option HssKey → ℕ
numbers_of None = 2 ^ 63
numbers_of (Some key) = min (2 ^ 63) (count_below key.below - 2)

-- each member can sign in a view
abbrev pub AllSignIn : (members : ℕ → Bool) → NodeReplicas → (view : ℕ) → Type 0
AllSignIn members w view = (k : ℕ) → members k ≡ true → view < views_of (w k).node.keys.signer

-- and what is of a number
abbrev pub AllSignOf : (members : ℕ → Bool) → NodeReplicas → (number : ℕ) → Type 0
AllSignOf members w number = (k : ℕ) → members k ≡ true → number < numbers_of (w k).node.keys.signer

-- nothing comes but what a member gives; no client asks for anything, and memory doesn't run out. A batch of a time beyond the limits would have no text, and behind the
-- last view and the last number of its key a member signs nothing
abbrev pub MayTake : (members : ℕ → Bool) → NodeReplicas → (who : ℕ) → NodeStep → Type 0
MayTake members w who (Takes m) = (j : ℕ) × (members j ≡ true) × Gives (w j) m
MayTake members w who (Adopts checkpoint files table) = IsAMembers members w checkpoint × IsOffered members w checkpoint files table
MayTake members w who (Settles checkpoint) = IsAMembers members w checkpoint
MayTake members w who (Delivers bytes) = ⊥
MayTake members w who (TakesRequests messages) = ⊥
MayTake members w who (TakesOffered request) = ⊥
MayTake members w who (Proposes time) = IsTime time × AllSignOf members w (next_number (order_of w who))
MayTake members w who Fails = ⊥
MayTake members w who TimesOut = ⊥
MayTake members w who (LeavesFor view) = AllSignIn members w view
MayTake members w who _ = Unit {0}

-- each turn is a member's
abbrev pub IsWay : (members : ℕ → Bool) → NodeReplicas → List NodeTurn → Type 0
IsWay members w [] = Unit {0}
IsWay members w (turn ∷ turns) = (members turn.who ≡ true) × MayTake members w turn.who turn.step × IsWay members (after_node_turn w turn) turns

-- Premises ------------------------------------------------------------------------------------------------------------

-- what members give keeps the limits of messages: a client's request that doesn't could be proposed, and no node would take it
abbrev pub AllFits : (members : ℕ → Bool) → NodeReplicas → Type 0
AllFits members w = (i : ℕ) (m : Signed Message) → members i ≡ true → Gives (w i) m → FitsMessage m.message

-- what a member gives passes at each member, by whose keys: keyed hashes, each right for one receiver, give that where no liar's are among them
pub record GivesPass (f : ℕ) (keys : Keyring) (members : ℕ → Bool) (w : NodeReplicas) : Type 0 where
  -- what stands in its log under its own name
  pub votes : (i j : ℕ) (m : Signed OrderMessage) → members i ≡ true → members j ≡ true → IsIn m (order_of w i).log → (header m).sender ≡ i → passes (w j).node m ≡ true
  pub changes : (i j : ℕ) (change : Signed model.ViewChange) → members i ≡ true → members j ≡ true → (w i).node.changes.own ≡ Some change → valid_view_change (keys j) change ≡ true
  pub new_views : (i j : ℕ) (new : Signed model.NewView) → members i ≡ true → members j ≡ true → (w i).node.new_view ≡ Some new → new_view_passes (keys j) new ≡ true
  pub stable : (i j : ℕ) → members i ≡ true → members j ≡ true → has_stable (keys j) (change_of (order_of w i) 0) ≡ true
  pub fits : AllFits members w

-- in each state that members come into by themselves; and no two batches or states have one digest there
pub record AreFairTo (f : ℕ) (keys : Keyring) (start : Beginning) (faulty members : ℕ → Bool) (turns : List NodeTurn) : Type 0 where
  pub passes : (way : List NodeTurn) → IsWay members (reached f keys start turns) way → GivesPass f keys members (reached f keys start (turns ++ way))
  pub batches : (way : List NodeTurn) → IsWay members (reached f keys start turns) way → BatchesDontCollide faulty (reached f keys start (turns ++ way))
  pub states : (way : List NodeTurn) → IsWay members (reached f keys start turns) way → StatesDontCollide faulty (reached f keys start (turns ++ way))

-- each member can ask for so many views more, in which all of them can sign
abbrev pub HaveViews : (members : ℕ → Bool) → NodeReplicas → (count : ℕ) → Type 0
HaveViews members w count = (j k : ℕ) → members j ≡ true → members k ≡ true → asked_by w j + count < views_of (w k).node.keys.signer

-- for f + 1 views more; and each can come to log_size + 1 numbers more than it has executed; and no file system has failed
pub record HasFuture (f : ℕ) (members : ℕ → Bool) (w : NodeReplicas) : Type 0 where
  pub views : HaveViews members w (f + 1)
  pub numbers : (k : ℕ) → members k ≡ true → AllSignOf members w ((order_of w k).last + (log_size + 1))
  pub live : (k : ℕ) → members k ≡ true → is_some (w k).node.files ≡ true
