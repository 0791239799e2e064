-- A replica asks for a view, or goes on asking for the one that it has asked for.
use Rattle.std.specs.Prelude.{◌≡◌, ℕ, ◌⊎◌, None}
use Rattle.bfs_order.specs.Replica.Views.{leaving_refusal}
use Rattle.bfs_node.specs.Nodes.{Node}

abbrev pub asking : Node → (view : ℕ) → Node
asking node view = record node { order = record node.order { asked = view } }

abbrev pub MayAsk : Node → (view : ℕ) → Type 0
MayAsk node view = (view ≡ node.order.asked) ⊎ (leaving_refusal node.order view ≡ None)
