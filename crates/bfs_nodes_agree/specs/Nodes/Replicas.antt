-- Nodes by what they do, and what of it has been sent and executed (OSDI 1999 sections 4.2 to 4.4).
use Rattle.std.specs.Prelude.{ℕ, ◌==◌, List, [], ◌∷◌, ◌++◌, map, Option, Some, None, if◌then◌else◌}
use Rattle.bfs_model.specs.Server.Tree.{FileSystem}
use Rattle.bfs_auth.specs.Keys.{Keys}
use Rattle.bfs_log.specs.Logs.{Log}
use Rattle.bfs_replies.specs.Tables.{Table}
use Rattle.bfs_nodes_agree.specs.Views.Replicas.{ViewDeed, ViewTurn}
use Rattle.bfs_node.specs.Nodes.{Messages, Node, node_with}
use Rattle.bfs_nodes_agree.specs.Nodes.Steps.{NodeStep, outcome, executed_by, deeds_of}

-- the file system and the last replies after a number
pub record Standing : Type 0 where
  pub number : ℕ
  pub files : FileSystem
  pub table : Table

-- a file system that has failed has no state
abbrev pub standing_with : Node → Option FileSystem → List Standing
standing_with node None = []
standing_with node (Some files) = record { number = node.order.last; files = files; table = node.table } ∷ []

-- after the number last executed
abbrev pub standing_of : Node → List Standing
standing_of node = standing_with node node.files

pub record NodeReplica : Type 0 where
  pub node : Node
  -- all that its calls gave to be sent
  pub sent : Messages
  -- PRE-PREPAREs of the batches that it has executed
  pub executed : Log
  -- each state that it has been in
  pub reached : List Standing

abbrev pub after_node_step : NodeReplica → NodeStep → NodeReplica
after_node_step r step = record {
  node = (outcome r.node step).now;
  sent = (outcome r.node step).sent ++ r.sent;
  executed = executed_by r.node step ++ r.executed;
  reached = standing_of (outcome r.node step).now ++ r.reached;
}

-- each by its number
abbrev pub NodeReplicas : Type 0
NodeReplicas = ℕ → NodeReplica

-- the keys of each replica, by its number: who else has which is not said here
abbrev pub Keyring : Type 0
Keyring = ℕ → Keys

-- the file system and the last replies with which all replicas begin, as of number 0
pub record Beginning : Type 0 where
  pub files : FileSystem
  pub table : Table

abbrev pub beginning_node : (f : ℕ) → Keyring → Beginning → (k : ℕ) → Node
beginning_node f keys start k = node_with f k (keys k) start.files start.table

-- which have done nothing yet
abbrev pub new_node_replicas : (f : ℕ) → Keyring → Beginning → NodeReplicas
new_node_replicas f keys start = λ k. record { node = beginning_node f keys start k; sent = []; executed = []; reached = standing_of (beginning_node f keys start k) }

-- a step of one replica
pub record NodeTurn : Type 0 where
  pub who : ℕ
  pub step : NodeStep

abbrev pub after_node_turn : NodeReplicas → NodeTurn → NodeReplicas
after_node_turn w turn = λ j. if j == turn.who then after_node_step (w turn.who) turn.step else w j

abbrev pub after_node_turns : NodeReplicas → List NodeTurn → NodeReplicas
after_node_turns w [] = w
after_node_turns w (turn ∷ turns) = after_node_turns (after_node_turn w turn) turns

abbrev pub turn_of : (who : ℕ) → ViewDeed → ViewTurn
turn_of who deed = record { who = who; deed = deed }

-- what they are to the orders
abbrev pub ordered_turns : NodeReplicas → List NodeTurn → List ViewTurn
ordered_turns w [] = []
ordered_turns w (turn ∷ turns) = map (turn_of turn.who) (deeds_of (w turn.who).node turn.step) ++ ordered_turns (after_node_turn w turn) turns
