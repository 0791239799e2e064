-- Calls of nodes and deliveries to them, of which the laws speak.
use Rattle.std.specs.Prelude.{ℕ, ◌<◌, Bool, List}
use Rattle.bfs_agreement.specs.Histories.{FewAreFaulty}
use Rattle.bfs_order.specs.Replica.States.{State}
use Rattle.bfs_nodes_agree.specs.Nodes.Premises.{AreAuthentic, AreShared}
use Rattle.bfs_nodes_agree.specs.Nodes.Replicas.{Beginning, Keyring, NodeReplicas, NodeTurn, after_node_turns, new_node_replicas}

-- of 3f + 1 replicas, more than one, at most f are faulty, and nothing that passes under a correct one's name is forged (OSDI 1999 section 2)
pub record IsARun (f : ℕ) (keys : Keyring) (start : Beginning) (faulty : ℕ → Bool) (turns : List NodeTurn) : Type 0 where
  pub others : 0 < f
  pub shared : AreShared f keys
  pub few : FewAreFaulty f faulty
  pub authentic : AreAuthentic faulty (new_node_replicas f keys start) turns

-- all nodes after calls and deliveries, from the beginning
abbrev pub reached : (f : ℕ) → Keyring → Beginning → List NodeTurn → NodeReplicas
reached f keys start turns = after_node_turns (new_node_replicas f keys start) turns

-- what a node knows of the order
abbrev pub order_of : NodeReplicas → (k : ℕ) → State
order_of w k = (w k).node.order
