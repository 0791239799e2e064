-- The acts of the run of a trace, and the lines that it prints.
use Rattle.std.specs.Prelude.{◌≡◌, ℕ, Bool, false, List, [], ◌∷◌, ◌++◌, map, slice_get, Option, Some}
use Rattle.std.specs.List.{flat_map}
use Rattle.bfs_model.specs.Server.Tree.{new_file_system}
use Rattle.bfs_messages.specs.Fits.{FitsMessage}
use Rattle.bfs_messages.specs.Limits.{FitsRequest}
use Rattle.bfs_messages.specs.Messages as model
use Rattle.bfs_messages.specs.declared.signed.Signed.{Signed}
use Rattle.bfs_messages.specs.declared.message.Message.{Message}
use Rattle.bfs_settings.specs.Settings.{Settings}
use Rattle.bfs_agreement.specs.Histories.{IsIn}
use Rattle.bfs_node.specs.Nodes.{keys_of_replica}
use Rattle.bfs_node.specs.Receivers.{receivers_of}
use Rattle.bfs_node.specs.declared.receivers.Receivers.TheVariants.{Client}
use Rattle.bfs_clients.specs.Clients.{clients_of}
use Rattle.bfs_cluster.specs.World as cluster
use Rattle.bfs_one_server.specs.Laws.{HasAccepted, client_after}
use Rattle.bfs_one_server.specs.Worlds.{Act, Deployment, World, after_acts, new_world}
use Rattle.bfs_replay.specs.Output.{result_line, view_line}
use Rattle.bfs_replay.specs.Runs.{as_message}
use Rattle.bfs_trace.specs.declared.events.TraceEvent.{TraceEvent}
use Rattle.bfs_trace.specs.declared.events.TraceEvent.TheVariants as event

-- Who takes part --------------------------------------------------------------------------------------------------------------

-- replicas and clients of the settings: all replicas are correct, and these clients may not be
abbrev pub deployment : Settings → (liar : ℕ → Bool) → Deployment
deployment settings liar = record { keys = keys_of_replica settings; clients = clients_of settings; files = new_file_system; faulty = λ k. false; liar = liar }

abbrev pub world_after : Deployment → List Act → World
world_after d acts = after_acts (new_world d) acts

-- Requests ----------------------------------------------------------------------------------------------------------------------

abbrev pub asked_in : TraceEvent → List model.Request
asked_in (event.Block block) = map as_message block.requests
asked_in other = []

-- all requests of a trace
abbrev pub requests_in : List TraceEvent → List model.Request
requests_in [] = []
requests_in (event ∷ events) = asked_in event ++ requests_in events

-- correct clients send one request of a timestamp, as often as they like
abbrev pub AskOnce : (liar : ℕ → Bool) → List model.Request → Type 0
AskOnce liar requests = (one other : model.Request) → IsIn one requests → IsIn other requests → liar one.client ≡ false
    → one.client ≡ other.client → one.timestamp ≡ other.timestamp → one ≡ other

-- What acts do --------------------------------------------------------------------------------------------------------------------

-- a replica has sent it, to that client
pub record WasSentTo (w : World) (client : ℕ) (m : Signed Message) : Type 0 where
  pub sender : ℕ
  pub sent : IsIn m (w.nodes sender).sent
  pub receiver : receivers_of m.message ≡ Client client

-- they lead to the replicas of that world, by requests of the trace
pub record AreOfRun (d : Deployment) (requests : List model.Request) (world : cluster.World) (acts : List Act) : Type 0 where
  -- each replica is as they leave it
  pub replicas : (k : ℕ) (r : cluster.Replica) → slice_get world.replicas k ≡ Some r → r.node ≡ ((world_after d acts).nodes k).node
  -- each request was signed by its client, and a client signs no other
  pub signed : (q : model.Request) → IsIn q requests → IsIn q (client_after d acts q.client).signed
  pub asked : (c : ℕ) (q : model.Request) → IsIn q (client_after d acts c).signed → IsIn q requests × (q.client ≡ c)
  -- what came to a client was sent to it
  pub heard : (c : ℕ) (m : Signed Message) → IsIn m (client_after d acts c).heard → WasSentTo (world_after d acts) c m

-- what was signed and sent has a text, as each value of the code's types has
pub record HaveTexts (w : World) : Type 0 where
  pub requests : (c : ℕ) (q : model.Request) → IsIn q (w.clients c).signed → FitsRequest q
  pub messages : (k : ℕ) (m : Signed Message) → IsIn m (w.nodes k).sent → FitsMessage m.message

-- Lines ---------------------------------------------------------------------------------------------------------------------------

pub data Line : Type 0 where
  -- what a client makes of the replies to its request of that timestamp
  Result : (client timestamp : ℕ) → Option (List ℕ) → Line
  View : (view : ℕ) → Line

abbrev pub line_text : Line → List ℕ
line_text (Result client timestamp result) = result_line client timestamp result
line_text (View view) = view_line view

abbrev pub text_of : List Line → List ℕ
text_of lines = flat_map line_text lines

-- each result that is told is one that its client has accepted
abbrev pub AreAccepted : Deployment → List Act → List Line → Type 0
AreAccepted d acts lines = (c t : ℕ) (r : List ℕ) → IsIn (Result c t (Some r)) lines → HasAccepted d acts c t r
