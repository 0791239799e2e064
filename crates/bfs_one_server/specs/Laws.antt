-- Clients see one server.
use Rattle.std.specs.Prelude.{◌≡◌, ℕ, suc, Bool, false, List, ◌∷◌, ◌++◌, Some}
use Rattle.std.specs.List.{slice_get}
use Rattle.bfs_messages.specs.Messages.{Batch, Request}
use Rattle.bfs_agreement.specs.Histories.{IsIn}
use Rattle.bfs_nodes_agree.specs.Nodes.Laws.{Executed}
use Rattle.bfs_nodes_agree.specs.Nodes.Replicas.{NodeReplicas}
use Rattle.bfs_one_server.specs.Premises.{IsARun}
use Rattle.bfs_one_server.specs.Serving.{AreTimely, Effect, IsBefore, IsOf, Rise, Serves, effects}
use Rattle.bfs_one_server.specs.Worlds.{Accepts, Act, Client, Deployment, Signs, after_acts, beginning, new_world}

-- the batches that correct replicas have executed, by number from 1 on: each of them, and no other
pub record AreAll (faulty : ℕ → Bool) (w : NodeReplicas) (batches : List Batch) : Type 0 where
  pub executed : (n : ℕ) (batch : Batch) → slice_get batches n ≡ Some batch → (i : ℕ) × (faulty i ≡ false) × Executed (w i) (suc n) batch
  pub all : (i number : ℕ) (batch : Batch) → faulty i ≡ false → Executed (w i) number batch → (n : ℕ) × (number ≡ suc n) × (slice_get batches n ≡ Some batch)

-- what takes effect by them, from the beginning on
abbrev pub history : Deployment → List Batch → List Effect
history d batches = effects d.files (beginning d).table batches

-- what a client has done by the end of these acts
abbrev pub client_after : Deployment → List Act → (client : ℕ) → Client
client_after d acts c = (after_acts (new_world d) acts).clients c

-- by then it has accepted that result
abbrev pub HasAccepted : Deployment → List Act → (client timestamp : ℕ) → (result : List ℕ) → Type 0
HasAccepted d acts c t r = Accepts d.clients (client_after d acts c) c t r

pub record SeeOneServer (d : Deployment) (acts : List Act) (served : List Effect) : Type 0 where
  -- one server gives these replies to these requests, one after another, from the file system with which replicas begin
  pub serves : Serves d.files.tree d.files.next_ordinal served
  -- at times that never fall
  pub timely : AreTimely d.files.last_time served
  -- no request takes effect twice, and each client's by rising timestamps
  pub once : Rise served
  -- what takes effect under a correct client's name was signed by it
  pub signed : (e : Effect) → IsIn e served → d.liar e.request.client ≡ false → IsIn e.request (client_after d acts e.request.client).signed
  -- what a correct client accepts is the reply of an effect, and it is that of the request of that timestamp that it signed
  pub accepted : (c t : ℕ) (r : List ℕ) → d.liar c ≡ false → HasAccepted d acts c t r
      → (e : Effect) × IsIn e served × IsOf e c t r × ((q : Request) → IsIn q (client_after d acts c).signed → q.timestamp ≡ t → e.request ≡ q)
  -- it never accepts another result for it
  pub one_result : (c t : ℕ) (r other : List ℕ) → d.liar c ≡ false → HasAccepted d acts c t r → HasAccepted d acts c t other → r ≡ other
  -- what was accepted before another request was signed took effect before that one does
  pub order : (before after : List Act) (later : Request) (c t : ℕ) (r : List ℕ) → acts ≡ before ++ Signs later ∷ after → d.liar c ≡ false → d.liar later.client ≡ false
      → HasAccepted d before c t r
      → (one other : Effect) → IsIn one served → IsIn other served → IsOf one c t r → other.request ≡ later → IsBefore one other served

-- over every list of what replicas, clients and the network do
abbrev pub ClientsSeeOneServer : Type 0
ClientsSeeOneServer = (d : Deployment) (acts : List Act) → IsARun d acts
    → (batches : List Batch) × AreAll d.faulty (after_acts (new_world d) acts).nodes batches
    × ((others : List Batch) → AreAll d.faulty (after_acts (new_world d) acts).nodes others → others ≡ batches)
    × SeeOneServer d acts (history d batches)
