-- Members leave for a later view that one of them leads, and enter it together (OSDI 1999 section 4.4).
use Rattle.std.specs.Prelude.{◌≡◌, ℕ, ◌<◌, ◌==◌, Bool, true, ◌&&◌, not, List, [], ◌∷◌, ◌++◌, Option, Some, None, if◌then◌else◌}
use Rattle.bfs_messages.specs.Messages as model
use Rattle.bfs_messages.specs.Signing.{as_message}
use Rattle.bfs_messages.specs.declared.message.Message.TheVariants.{NewView, ViewChange}
use Rattle.bfs_messages.specs.declared.signed.Signed.{Signed}
use Rattle.bfs_votes.specs.Votes.{primary, replicas}
use Rattle.bfs_node.specs.Nodes.{Node}
use Rattle.bfs_nodes_agree.specs.Nodes.Replicas.{Beginning, Keyring, NodeReplicas, NodeTurn, after_node_turns}
use Rattle.bfs_nodes_agree.specs.Nodes.Steps.{LeavesFor, Takes}
use Rattle.bfs_nodes_progress.specs.Following.{asked_by, each_takes}
use Rattle.bfs_nodes_progress.specs.Members.{AreTogether}
use Rattle.bfs_nodes_progress.specs.Runs.{IsARun, reached}
use Rattle.bfs_liveness.specs.Ways.{AllSignIn, IsWay}

-- The way -------------------------------------------------------------------------------------------------------------

-- those of each member but one
abbrev pub of_others : (f : ℕ) (members : ℕ → Bool) → (who : ℕ) → (turns : ℕ → List NodeTurn) → List NodeTurn
of_others f members who turns = each_takes (λ k. if members k && not (k == who) then turns k else []) (replicas f)

-- each member leaves for the view
abbrev pub all_leave : (f : ℕ) (members : ℕ → Bool) → (view : ℕ) → List NodeTurn
all_leave f members view = each_takes (λ k. if members k then record { who = k; step = LeavesFor view } ∷ [] else []) (replicas f)

-- a VIEW-CHANGE comes to a node, if there is one
abbrev pub taking_change : (who : ℕ) → Option (Signed model.ViewChange) → List NodeTurn
taking_change who None = []
taking_change who (Some change) = record { who = who; step = Takes (as_message ViewChange change) } ∷ []

-- that of each other member comes to the view's primary
abbrev pub all_tell : (f : ℕ) (members : ℕ → Bool) → NodeReplicas → (view : ℕ) → List NodeTurn
all_tell f members w view = of_others f members (primary f view) (λ k. taking_change (primary f view) (w k).node.changes.own)

-- a NEW-VIEW comes to a node, if there is one
abbrev pub taking_view : (who : ℕ) → Option (Signed model.NewView) → List NodeTurn
taking_view who None = []
taking_view who (Some new) = record { who = who; step = Takes (as_message NewView new) } ∷ []

-- one comes to each member but the view's primary
abbrev pub all_enter : (f : ℕ) (members : ℕ → Bool) → (view : ℕ) → Option (Signed model.NewView) → List NodeTurn
all_enter f members view new = of_others f members (primary f view) (λ k. taking_view k new)

-- they leave, the primary hears it, and the NEW-VIEW by which it has begun the view comes to the others
abbrev pub meeting : (f : ℕ) (members : ℕ → Bool) → NodeReplicas → (view : ℕ) → List NodeTurn
meeting f members w view =
    let one = all_leave f members view in
    let left = after_node_turns w one in
    let two = all_tell f members left view in
    one ++ (two ++ all_enter f members view (after_node_turns left two (primary f view)).node.new_view)

-- Where they meet -----------------------------------------------------------------------------------------------------

-- one of them leads the view, none has asked for it or for a later one, and all can sign in it
pub record MayMeetIn (f : ℕ) (members : ℕ → Bool) (w : NodeReplicas) (view : ℕ) : Type 0 where
  pub leads : members (primary f view) ≡ true
  pub later : (k : ℕ) → members k ≡ true → asked_by w k < view
  pub signed : AllSignIn members w view

-- what waits at a node, and what it has executed, stay
pub record KeepsWork (node now : Node) : Type 0 where
  pub pending : now.pending ≡ node.pending
  pub files : now.files ≡ node.files
  pub table : now.table ≡ node.table
  pub last : now.order.last ≡ node.order.last

-- by a way of members, behind which they are together in the view, and have lost nothing
pub record Meets (f : ℕ) (keys : Keyring) (start : Beginning) (faulty members : ℕ → Bool) (turns way : List NodeTurn) (view : ℕ) : Type 0 where
  pub is_way : IsWay members (reached f keys start turns) way
  pub run : IsARun f keys start faulty (turns ++ way)
  pub together : AreTogether f faulty members (reached f keys start (turns ++ way)) view
  pub work : (k : ℕ) → members k ≡ true → KeepsWork (reached f keys start turns k).node (reached f keys start (turns ++ way) k).node
