-- Replicas and clients, and what each has done so far (OSDI 1999 section 4.1).
use Rattle.std.specs.Prelude.{◌≡◌, ℕ, ◌==◌, Bool, List, [], ◌∷◌, length, replicate, Some, None, if◌then◌else◌}
use Rattle.bfs_model.specs.Server.Tree.{FileSystem}
use Rattle.bfs_messages.specs.Messages.{Request}
use Rattle.bfs_messages.specs.declared.signed.Signed.{Signed}
use Rattle.bfs_messages.specs.declared.message.Message.{Message}
use Rattle.bfs_agreement.specs.Histories.{IsIn}
use Rattle.bfs_clients.specs.Clients.{Clients}
use Rattle.bfs_clients.specs.Tallies.{result_to}
use Rattle.bfs_nodes_agree.specs.Nodes.Replicas.{Beginning, Keyring, NodeReplicas, NodeTurn, after_node_turn, new_node_replicas}

-- Who takes part ----------------------------------------------------------------------------------------------------------------

-- what does not change as a run goes on
pub record Deployment : Type 0 where
  -- the keys of each replica, by its number
  pub keys : Keyring
  -- f, and the keys of each client, by its number
  pub clients : Clients
  -- the file system with which all replicas begin
  pub files : FileSystem
  -- which replicas, and which clients, may lie
  pub faulty : ℕ → Bool
  pub liar : ℕ → Bool

-- no client has had a reply yet
abbrev pub beginning : Deployment → Beginning
beginning d = record { files = d.files; table = replicate (length d.clients.keys) None }

-- What they do --------------------------------------------------------------------------------------------------------------------

pub record Client : Type 0 where
  -- requests that it has signed for all replicas
  pub signed : List Request
  -- messages that have come to it
  pub heard : List (Signed Message)

pub record World : Type 0 where
  pub nodes : NodeReplicas
  -- each by its number
  pub clients : ℕ → Client

abbrev pub new_world : Deployment → World
new_world d = record { nodes = new_node_replicas d.clients.f d.keys (beginning d); clients = λ c. record { signed = []; heard = [] } }

-- a replica takes a step, a client signs a request, or a message comes to a client
pub data Act : Type 0 where
  Steps : NodeTurn → Act
  Signs : Request → Act
  Hears : (client : ℕ) → Signed Message → Act

abbrev pub with_signed : Client → Request → Client
with_signed client request = record client { signed = request ∷ client.signed }

abbrev pub with_heard : Client → Signed Message → Client
with_heard client message = record client { heard = message ∷ client.heard }

abbrev pub after_act : World → Act → World
after_act w (Steps turn) = record w { nodes = after_node_turn w.nodes turn }
after_act w (Signs request) = record w { clients = λ c. if c == request.client then with_signed (w.clients c) request else w.clients c }
after_act w (Hears client message) = record w { clients = λ c. if c == client then with_heard (w.clients c) message else w.clients c }

abbrev pub after_acts : World → List Act → World
after_acts w [] = w
after_acts w (act ∷ acts) = after_acts (after_act w act) acts

-- what the replicas do
abbrev pub turns_in : List Act → List NodeTurn
turns_in [] = []
turns_in (Steps turn ∷ acts) = turn ∷ turns_in acts
turns_in (act ∷ acts) = turns_in acts

-- Results -------------------------------------------------------------------------------------------------------------------

-- a client accepts a result of its request of that timestamp: its tally has it by messages that came, whichever were counted, in whatever order
pub record Accepts (clients : Clients) (it : Client) (client timestamp : ℕ) (result : List ℕ) : Type 0 where
  pub counted : List (Signed Message)
  pub came : (m : Signed Message) → IsIn m counted → IsIn m it.heard
  pub agreed : result_to clients counted client timestamp ≡ Some result
