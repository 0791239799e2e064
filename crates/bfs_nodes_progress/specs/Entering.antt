-- Members that have asked for a view, and the NEW-VIEW that comes to them.
use Rattle.std.specs.Prelude.{◌≡◌, ℕ, ◌<◌, ◌==◌, Bool, true, false, List, None}
use Rattle.bfs_auth.specs.Keys.{Keys}
use Rattle.bfs_messages.specs.Messages as model
use Rattle.bfs_messages.specs.Signing.{as_message}
use Rattle.bfs_messages.specs.declared.signed.Signed.{Signed}
use Rattle.bfs_messages.specs.declared.message.Message.TheVariants.{NewView}
use Rattle.bfs_votes.specs.Votes.{primary}
use Rattle.bfs_view_change.specs.Changes.NewViews.{new_view_refusal}
use Rattle.bfs_progress.specs.Members.{IsQuorum}
use Rattle.bfs_nodes_agree.specs.Nodes.Replicas.{Keyring, NodeReplicas, NodeTurn}
use Rattle.bfs_nodes_progress.specs.Rounds.{ComesTo}
use Rattle.bfs_nodes_progress.specs.Runs.{order_of}

-- they have asked for the view, and none has entered it (OSDI 1999 section 4.4)
pub record HaveAsked (f : ℕ) (faulty members : ℕ → Bool) (w : NodeReplicas) (view : ℕ) : Type 0 where
  pub quorum : IsQuorum f faulty members view
  pub asked : (k : ℕ) → members k ≡ true → (order_of w k).asked ≡ view
  pub before : (k : ℕ) → members k ≡ true → (order_of w k).view < view

-- a NEW-VIEW for the view, right by these keys, comes to a node in one of the turns
pub record NewViewComes (keys : Keys) (view who : ℕ) (turns : List NodeTurn) : Type 0 where
  pub new : Signed model.NewView
  pub for_view : new.message.view ≡ view
  pub right : new_view_refusal keys new ≡ None
  pub comes : ComesTo who (as_message NewView new) turns

-- to each member but the primary
abbrev pub NewViewsCome : (f : ℕ) → Keyring → (members : ℕ → Bool) → (view : ℕ) → List NodeTurn → Type 0
NewViewsCome f keys members view turns = (k : ℕ) → members k ≡ true → (k == primary f view) ≡ false → NewViewComes (keys k) view k turns
