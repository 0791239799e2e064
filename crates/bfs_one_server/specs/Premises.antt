-- What is asked of the network, of authenticators, of digests and of correct clients.
use Rattle.std.specs.Prelude.{◌≡◌, ℕ, Bool, false, true, List, [], ◌∷◌, length, Some}
use Rattle.bfs_votes.specs.Votes.{replicas}
use Rattle.bfs_auth.specs.Keys.{Keys}
use Rattle.bfs_log.specs.Batches.{Committed}
use Rattle.bfs_log.specs.Logs.{Log, batch_in}
use Rattle.bfs_messages.specs.Messages.{Request, requests_of}
use Rattle.bfs_messages.specs.Signing.{request_is_signed}
use Rattle.bfs_messages.specs.declared.signed.Signed.{Signed}
use Rattle.bfs_messages.specs.declared.order_messages.OrderMessage.{OrderMessage}
use Rattle.bfs_agreement.specs.Histories.{IsIn, FewAreFaulty}
use Rattle.bfs_clients.specs.Clients.{Clients, keys_at}
use Rattle.bfs_nodes_agree.specs.Nodes.Laws.{BatchesDontCollide}
use Rattle.bfs_nodes_agree.specs.Nodes.Premises.{AreAuthentic, AreShared, IsAuthentic, StatesDontCollide}
use Rattle.bfs_nodes_agree.specs.Nodes.Replicas.{new_node_replicas}
use Rattle.bfs_nodes_agree.specs.Nodes.Steps.{executed_by}
use Rattle.bfs_one_server.specs.Worlds.{Act, Steps, Signs, Hears, Deployment, World, after_act, after_acts, beginning, new_world, turns_in}

-- a request under a correct client's name was signed by it
abbrev pub WasSigned : (liar : ℕ → Bool) → World → Request → Type 0
WasSigned liar w request = liar request.client ≡ false → IsIn request (w.clients request.client).signed

-- of the requests in the batches of these PRE-PREPAREs, each whose keyed hash is right by these keys
abbrev pub AreOfClients : (liar : ℕ → Bool) → World → Keys → Log → Type 0
AreOfClients liar w keys proposals = (m : Signed OrderMessage) (next : Committed) (s : Signed Request)
    → IsIn m proposals → batch_in m.message ≡ Some next → IsIn s (requests_of next.batch) → request_is_signed keys s ≡ true → WasSigned liar w s.message

-- where a correct replica executes a batch, each request in it that passes by its keys was signed by the client that it names, if that is
-- correct; a correct client signs one request of a timestamp; and what comes to one under a correct replica's name, and passes by its keys, was
-- sent by that replica (OSDI 1999 section 2: authenticators aren't forged)
abbrev pub MayAct : Deployment → World → Act → Type 0
MayAct d w (Steps turn) = d.faulty turn.who ≡ false → AreOfClients d.liar w (d.keys turn.who) (executed_by (w.nodes turn.who).node turn.step)
MayAct d w (Signs request) = d.liar request.client ≡ false → (other : Request) → IsIn other (w.clients request.client).signed → other.timestamp ≡ request.timestamp → ⊥
MayAct d w (Hears client message) = d.liar client ≡ false → (keys : Keys) → keys_at d.clients client ≡ Some keys → IsAuthentic d.faulty w.nodes keys message

-- each where it is done
abbrev pub MayActSo : Deployment → World → List Act → Type 0
MayActSo d w [] = Unit {0}
MayActSo d w (act ∷ acts) = MayAct d w act × MayActSo d (after_act w act) acts

-- each client shares keys with 3f + 1 replicas
abbrev pub ClientsShare : Clients → Type 0
ClientsShare clients = (c : ℕ) (keys : Keys) → keys_at clients c ≡ Some keys → length keys.replicas ≡ replicas clients.f

-- whatever replicas, clients and the network do, where
pub record IsARun (d : Deployment) (acts : List Act) : Type 0 where
  -- each replica, and each client, shares keys with 3f + 1 replicas
  pub shared : AreShared d.clients.f d.keys
  pub shared_by_clients : ClientsShare d.clients
  -- at most f replicas are faulty
  pub few : FewAreFaulty d.clients.f d.faulty
  -- what comes to a replica under a correct replica's name was sent by it
  pub authentic : AreAuthentic d.faulty (new_node_replicas d.clients.f d.keys (beginning d)) (turns_in acts)
  -- what is executed, signed and heard is as said above
  pub honest : MayActSo d (new_world d) acts
  -- no two batches, and no two states, that correct replicas have at one number have one digest
  pub batches_differ : BatchesDontCollide d.faulty (after_acts (new_world d) acts).nodes
  pub states_differ : StatesDontCollide d.faulty (after_acts (new_world d) acts).nodes
