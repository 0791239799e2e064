-- What members have signed, and what of that others are shown.
use Rattle.std.specs.Prelude.{◌≡◌, ◌⊎◌, ℕ, Bool, true, List, ◌++◌, Some}
use Rattle.lms.specs.Signers.{HssKey}
use Rattle.bfs_auth.specs.Authenticators.{signature}
use Rattle.bfs_auth.specs.Places.{place_in}
use Rattle.bfs_auth.specs.declared.places.Place.{Place}
use Rattle.bfs_auth.specs.declared.principals.Principal.TheVariants.{Replica}
use Rattle.bfs_messages.specs.Messages as model
use Rattle.bfs_messages.specs.Signing.{as_message, is_signed, sender_of}
use Rattle.bfs_messages.specs.Spelling.{body_text}
use Rattle.bfs_messages.specs.declared.message.Message.{Message}
use Rattle.bfs_messages.specs.declared.message.Message.TheVariants.{NewView, ViewChange}
use Rattle.bfs_messages.specs.declared.signed.Signed.{Signed}
use Rattle.bfs_nodes_agree.specs.Nodes.Laws.{BatchesDontCollide}
use Rattle.bfs_nodes_agree.specs.Nodes.Premises.{IsAmong, IsOf, StatesDontCollide}
use Rattle.bfs_nodes_agree.specs.Nodes.Replicas.{Beginning, Keyring, NodeReplica, NodeReplicas, NodeTurn}
use Rattle.bfs_nodes_progress.specs.Runs.{reached}
use Rattle.bfs_liveness.specs.Ways.{AllFits, IsWay}
use Rattle.bfs_passing.specs.Keys.{IsInTime}

-- what a node can show to others: what stands in its log, its VIEW-CHANGE, and the NEW-VIEW of its view, with all that is within them
abbrev pub Shows : NodeReplica → Signed Message → Type 0
Shows r p = IsAmong p r.node.order.log
    ⊎ (((s : Signed model.ViewChange) × (r.node.changes.own ≡ Some s) × IsOf p (as_message ViewChange s))
    ⊎ ((s : Signed model.NewView) × (r.node.new_view ≡ Some s) × IsOf p (as_message NewView s)))

-- of that, what a member has signed itself passes by its own keys: its key was not spent, and it knows its public key
abbrev pub OwnPasses : (keys : Keyring) (members : ℕ → Bool) → NodeReplicas → Type 0
OwnPasses keys members w = (i : ℕ) (p : Signed Message) → members i ≡ true → Shows (w i) p → sender_of p.message ≡ Replica i → p.auth ≡ signature (keys i) (body_text p.message)
    → is_signed (keys i) p ≡ true

-- of that, what is under a member's own name is of views and numbers that its key has
abbrev pub OwnIsInTime : (members : ℕ → Bool) (key : ℕ → HssKey) → NodeReplicas → Type 0
OwnIsInTime members key w = (i : ℕ) (p : Signed Message) (place : Place) → members i ≡ true → Shows (w i) p → sender_of p.message ≡ Replica i → place_in (body_text p.message) ≡ Some place
    → IsInTime (key i) place

-- so it is in each state that members come into by themselves; what they give keeps the limits of messages, and no two batches or states have one digest there
pub record SignInTime (f : ℕ) (keys : Keyring) (start : Beginning) (faulty members : ℕ → Bool) (turns : List NodeTurn) : Type 0 where
  pub own : (way : List NodeTurn) → IsWay members (reached f keys start turns) way → OwnPasses keys members (reached f keys start (turns ++ way))
  pub fits : (way : List NodeTurn) → IsWay members (reached f keys start turns) way → AllFits members (reached f keys start (turns ++ way))
  pub batches : (way : List NodeTurn) → IsWay members (reached f keys start turns) way → BatchesDontCollide faulty (reached f keys start (turns ++ way))
  pub states : (way : List NodeTurn) → IsWay members (reached f keys start turns) way → StatesDontCollide faulty (reached f keys start (turns ++ way))
