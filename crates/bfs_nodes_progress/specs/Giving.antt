-- What a node keeps of views, and gives again.
use Rattle.std.specs.Prelude.{◌≡◌, ℕ, ◌<◌, Bool, true, false, Some, None}
use Rattle.bfs_auth.specs.Keys.{Keys}
use Rattle.bfs_log.specs.Certificates.{faults}
use Rattle.bfs_messages.specs.Messages as model
use Rattle.bfs_messages.specs.Signing.{as_message}
use Rattle.bfs_messages.specs.declared.signed.Signed.{Signed}
use Rattle.bfs_messages.specs.declared.message.Message.TheVariants.{NewView, ViewChange}
use Rattle.bfs_votes.specs.Votes.{primary}
use Rattle.bfs_order.specs.declared.resending.Lag.{Lag}
use Rattle.bfs_agreement.specs.Histories.{IsIn}
use Rattle.bfs_view_change.specs.Changes.NewViews.{new_view_refusal}
use Rattle.bfs_node.specs.Nodes.{Node}
use Rattle.bfs_node.specs.Resending.{resent}
use Rattle.bfs_nodes_agree.specs.Nodes.Premises.{HasSaid}
use Rattle.bfs_nodes_agree.specs.Nodes.Replicas.{NodeReplicas}
use Rattle.bfs_nodes_progress.specs.Begun.{new_view_passes}
use Rattle.bfs_nodes_progress.specs.Runs.{order_of}

-- its VIEW-CHANGE for the view that it has asked for, whoever asks
pub record GivesChange (node : Node) : Type 0 where
  pub change : Signed model.ViewChange
  pub kept : node.changes.own ≡ Some change
  pub from : change.message.sender ≡ node.order.me
  pub for_view : change.message.view ≡ node.order.asked
  pub given : (to : Lag) → IsIn (as_message ViewChange change) (resent node to)

-- the NEW-VIEW by which it has entered its view, to one that tells that it is in an earlier view
pub record GivesNewView (f : ℕ) (faulty : ℕ → Bool) (w : NodeReplicas) (k : ℕ) : Type 0 where
  pub new : Signed model.NewView
  pub kept : (w k).node.new_view ≡ Some new
  pub of_view : new.message.view ≡ (order_of w k).view
  -- the view's primary has said it, where that is correct
  pub from : new.message.sender ≡ primary f (order_of w k).view
  pub said : faulty new.message.sender ≡ false → HasSaid (w new.message.sender).sent (NewView new.message)
  pub given : (to : Lag) → to.view < (order_of w k).view → IsIn (as_message NewView new) (resent (w k).node to)
  -- it is right for each replica by whose keys it passes with what is in it
  pub right : (keys : Keys) → faults keys ≡ f → new_view_passes keys new ≡ true → new_view_refusal keys new ≡ None
