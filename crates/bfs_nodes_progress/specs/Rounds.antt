-- Rounds in which members give one another again what they have said.
use Rattle.std.specs.Prelude.{◌≡◌, ℕ, ◌==◌, Bool, true, false, List, Some}
use Rattle.bfs_codec.specs.Reading.{message_of}
use Rattle.bfs_messages.specs.Signing.{as_message}
use Rattle.bfs_messages.specs.declared.signed.Signed.{Signed}
use Rattle.bfs_messages.specs.declared.message.Message.{Message}
use Rattle.bfs_messages.specs.declared.message.Message.TheVariants.{Order}
use Rattle.bfs_messages.specs.declared.order_messages.OrderMessage.{OrderMessage}
use Rattle.bfs_order.specs.Replica.Refusals.{is_authentic}
use Rattle.bfs_order.specs.Replica.Resending.{own_votes}
use Rattle.bfs_agreement.specs.Histories.{IsIn}
use Rattle.bfs_node.specs.Nodes.{Node}
use Rattle.bfs_nodes_agree.specs.Nodes.Replicas.{NodeReplicas, NodeTurn}
use Rattle.bfs_nodes_agree.specs.Nodes.Steps.{NodeStep, Delivers, Takes}
use Rattle.bfs_nodes_progress.specs.Runs.{order_of}

-- it comes in a step, as bytes or as it was read from them
abbrev pub Brings : NodeStep → Signed Message → Type 0
Brings (Delivers bytes) m = message_of bytes ≡ Some m
Brings (Takes signed) m = signed ≡ m
Brings _ m = ⊥

-- it comes to a node in one of the turns
pub record ComesTo (who : ℕ) (m : Signed Message) (turns : List NodeTurn) : Type 0 where
  pub turn : NodeTurn
  pub among : IsIn turn turns
  pub to : turn.who ≡ who
  pub brings : Brings turn.step m

-- it passes by the keys of a node, and what it carries does
abbrev pub passes : Node → Signed OrderMessage → Bool
passes node m = is_authentic node.keys node.order m

-- among other turns, what each has said of the number in its view comes to each other, by whose keys it passes
abbrev pub IsRound : (members : ℕ → Bool) → NodeReplicas → (number : ℕ) → List NodeTurn → Type 0
IsRound members w number turns = (i j : ℕ) (m : Signed OrderMessage) → members i ≡ true → members j ≡ true → (i == j) ≡ false
    → IsIn m (own_votes (order_of w i) number) → (passes (w j).node m ≡ true) × ComesTo j (as_message Order m) turns
