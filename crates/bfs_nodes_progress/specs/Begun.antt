-- VIEW-CHANGEs that come to a primary, and the NEW-VIEW by which it begins its view (OSDI 1999 section 4.4).
use Rattle.std.specs.Prelude.{◌≡◌, ℕ, ◌==◌, Bool, true, false, ◌&&◌, List, Some}
use Rattle.std.specs.List.{list_all}
use Rattle.bfs_auth.specs.Keys.{Keys}
use Rattle.bfs_messages.specs.Messages as model
use Rattle.bfs_messages.specs.Signing.{as_message, is_signed, order_is_signed}
use Rattle.bfs_messages.specs.declared.signed.Signed.{Signed}
use Rattle.bfs_messages.specs.declared.message.Message.TheVariants.{NewView, ViewChange}
use Rattle.bfs_messages.specs.declared.order_messages.OrderMessage.TheVariants.{PrePrepare}
use Rattle.bfs_votes.specs.Votes.{primary}
use Rattle.bfs_view_change.specs.Changes.ViewChanges.{valid_view_change}
use Rattle.bfs_nodes_agree.specs.Nodes.Replicas.{Keyring, NodeReplicas, NodeTurn}
use Rattle.bfs_nodes_progress.specs.Rounds.{ComesTo}
use Rattle.bfs_nodes_progress.specs.Runs.{order_of}

-- a VIEW-CHANGE of a replica for the view, valid by these keys, comes to a node in one of the turns
pub record ChangeComes (keys : Keys) (view sender who : ℕ) (turns : List NodeTurn) : Type 0 where
  pub change : Signed model.ViewChange
  pub from : change.message.sender ≡ sender
  pub for_view : change.message.view ≡ view
  pub valid : valid_view_change keys change ≡ true
  pub comes : ComesTo who (as_message ViewChange change) turns

-- to the primary, one of each other member
abbrev pub ChangesCome : (f : ℕ) → Keyring → (members : ℕ → Bool) → (view : ℕ) → List NodeTurn → Type 0
ChangesCome f keys members view turns = (k : ℕ) → members k ≡ true → (k == primary f view) ≡ false → ChangeComes (keys (primary f view)) view k (primary f view) turns

-- each has asked for the view, and for none later
abbrev pub AllAsk : (members : ℕ → Bool) → NodeReplicas → (view : ℕ) → Type 0
AllAsk members w view = (k : ℕ) → members k ≡ true → (order_of w k).asked ≡ view

-- a NEW-VIEW passes by these keys, and so does each VIEW-CHANGE and each PRE-PREPARE in it
abbrev pub new_view_passes : Keys → Signed model.NewView → Bool
new_view_passes keys s =
    is_signed keys (as_message NewView s)
    && (list_all (valid_view_change keys) s.message.changes && list_all (λ p. order_is_signed keys (as_message PrePrepare p)) s.message.proposals)

-- the NEW-VIEW by which the primary has entered the view comes to each other member, and passes there
abbrev pub NewViewIsGiven : (f : ℕ) → Keyring → (members : ℕ → Bool) → NodeReplicas → (view : ℕ) → List NodeTurn → Type 0
NewViewIsGiven f keys members w view turns = (k : ℕ) (new : Signed model.NewView) → members k ≡ true → (k == primary f view) ≡ false
    → (w (primary f view)).node.new_view ≡ Some new → (new_view_passes (keys k) new ≡ true) × ComesTo k (as_message NewView new) turns
