-- What is given again was sent before.
use Rattle.std.specs.Prelude.{◌≡◌, ◌<◌, ◌⊎◌, ℕ, Bool, false, List, Some}
use Rattle.bfs_auth.specs.Keys.{Keys}
use Rattle.bfs_codec.specs.Reading.{message_of}
use Rattle.bfs_messages.specs.Messages as model
use Rattle.bfs_messages.specs.Signing.{as_message}
use Rattle.bfs_messages.specs.declared.message.Message.{Message}
use Rattle.bfs_messages.specs.declared.message.Message.TheVariants.{NewView}
use Rattle.bfs_messages.specs.declared.signed.Signed.{Signed}
use Rattle.bfs_agreement.specs.Histories.{IsIn}
use Rattle.bfs_node.specs.Resending.{resent}
use Rattle.bfs_order.specs.declared.resending.Lag.{Lag}
use Rattle.bfs_nodes_agree.specs.Nodes.Premises.{AreAuthentic, AreShared, HasSaid, IsWhollyFair}
use Rattle.bfs_nodes_agree.specs.Nodes.Replicas.{Beginning, Keyring, NodeReplica, NodeTurn, after_node_turns, new_node_replicas}
use Rattle.bfs_nodes_agree.specs.Nodes.Steps.{NodeStep, Delivers, Takes}

-- a message comes by a step, as bytes or as it was read from them
abbrev pub Brings : NodeStep → Signed Message → Type 0
Brings (Delivers bytes) m = message_of bytes ≡ Some m
Brings (Takes signed) m = signed ≡ m
Brings _ m = ⊥

-- by one of these it came to a replica
abbrev pub HasComeTo : (who : ℕ) → List NodeTurn → Signed Message → Type 0
HasComeTo who turns m = (turn : NodeTurn) × IsIn turn turns × (turn.who ≡ who) × Brings turn.step m

-- the NEW-VIEW by which it has entered its view: it has sent it, or it came to it
pub record IsItsNewView (who : ℕ) (turns : List NodeTurn) (r : NodeReplica) (m : Signed Message) : Type 0 where
  pub new : Signed model.NewView
  pub kept : r.node.new_view ≡ Some new
  pub is : m ≡ as_message NewView new
  pub known : IsIn m r.sent ⊎ HasComeTo who turns m

-- whoever it is for, and however far that one is
abbrev pub IsSaidAgain : (who : ℕ) → List NodeTurn → NodeReplica → Type 0
IsSaidAgain who turns r = (to : Lag) (m : Signed Message) → IsIn m (resent r.node to) → HasSaid r.sent m.message ⊎ IsItsNewView who turns r m

-- a replica that is alone has nobody to send it to
abbrev pub WhatIsResentWasSent : Type 0
WhatIsResentWasSent = (f : ℕ) (keys : Keyring) (start : Beginning) (faulty : ℕ → Bool) (steps : List NodeTurn) → 0 < f → AreShared f keys
    → AreAuthentic faulty (new_node_replicas f keys start) steps
    → (i : ℕ) → faulty i ≡ false → IsSaidAgain i steps (after_node_turns (new_node_replicas f keys start) steps i)

-- and so it may be given to any node, with all that is within it
abbrev pub WhatIsResentIsFair : Type 0
WhatIsResentIsFair = (f : ℕ) (keys : Keyring) (start : Beginning) (faulty : ℕ → Bool) (steps : List NodeTurn) → 0 < f → AreShared f keys
    → AreAuthentic faulty (new_node_replicas f keys start) steps
    → (i : ℕ) → faulty i ≡ false → (to : Lag) (m : Signed Message) (by : Keys) → IsIn m (resent (after_node_turns (new_node_replicas f keys start) steps i).node to)
    → IsWhollyFair faulty (after_node_turns (new_node_replicas f keys start) steps) by m
