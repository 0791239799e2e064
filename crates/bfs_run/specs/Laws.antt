-- Clients of the run of a trace see one server.
use Rattle.std.specs.Prelude.{◌≡◌, ℕ, Bool, false, List, ◌++◌, Some}
use Rattle.bfs_messages.specs.Messages as model
use Rattle.bfs_messages.specs.Messages.{Batch}
use Rattle.bfs_settings.specs.Settings.{Settings}
use Rattle.bfs_agreement.specs.Histories.{IsIn}
use Rattle.bfs_node.specs.Nodes.{Node}
use Rattle.bfs_nodes_agree.specs.Nodes.Laws.{BatchesDontCollide}
use Rattle.bfs_nodes_agree.specs.Nodes.Premises.{StatesDontCollide}
use Rattle.bfs_clients.specs.Clients.{clients_of}
use Rattle.bfs_cluster.specs.World as cluster
use Rattle.bfs_one_server.specs.Laws.{AreAll, SeeOneServer, history}
use Rattle.bfs_one_server.specs.Premises.{IsARun}
use Rattle.bfs_one_server.specs.Serving.{Effect, IsBefore, IsOf}
use Rattle.bfs_one_server.specs.Worlds.{Act, Deployment}
use Rattle.bfs_replay.specs.Runs.{EventsRun, Run, new_run}
use Rattle.bfs_trace.specs.declared.events.TraceEvent.{TraceEvent}
use Rattle.bfs_run.specs.Acts.{AreAccepted, AreOfRun, AskOnce, HaveTexts, Line, Result, deployment, requests_in, text_of, world_after}

-- one server answers requests of the trace one after another, and each result that is told of a correct client is its reply
pub record IsOneServers (d : Deployment) (requests : List model.Request) (acts : List Act) (lines : List Line) : Type 0 where
  pub run : IsARun d acts
  pub batches : List Batch
  pub executed : AreAll d.faulty (world_after d acts).nodes batches
  pub sees : SeeOneServer d acts (history d batches)
  pub told : (c t : ℕ) (r : List ℕ) → IsIn (Result c t (Some r)) lines → d.liar c ≡ false
      → (e : Effect) × IsIn e (history d batches) × IsOf e c t r × IsIn e.request requests

-- no two batches, and no two states, that replicas have at one number have one digest
pub record DontCollide (d : Deployment) (acts : List Act) : Type 0 where
  pub batches : BatchesDontCollide d.faulty (world_after d acts).nodes
  pub states : StatesDontCollide d.faulty (world_after d acts).nodes

-- each of these results stands before what correct clients ask first later
abbrev pub AreBefore : Deployment → (asked : List model.Request) → List Line → (served : List Effect) → Type 0
AreBefore d asked lines served = (c t : ℕ) (r : List ℕ) (one other : Effect) → IsIn (Result c t (Some r)) lines → d.liar c ≡ false
    → IsIn one served → IsOf one c t r → IsIn other served → d.liar other.request.client ≡ false → (IsIn other.request asked → ⊥) → IsBefore one other served

-- replicas came to the first world, and then to the other one, by acts and more of them. What was printed until then, and behind it, are lines that
-- tell what clients accept, and they see one server
abbrev pub SeesOneServer : Deployment → (asked all : List model.Request) → (middle last : cluster.World) → (printed rest : List ℕ) → Type 0
SeesOneServer d asked all middle last printed rest = (acts more : List Act) × (lines others : List Line) × (printed ≡ text_of lines) × (rest ≡ text_of others)
    × AreOfRun d asked middle acts × AreOfRun d all last (acts ++ more)
    × AreAccepted d acts lines × AreAccepted d (acts ++ more) others
    × (HaveTexts (world_after d (acts ++ more)) → DontCollide d (acts ++ more)
    → (is : IsOneServers d all (acts ++ more) (lines ++ others)) × AreBefore d asked lines (history d is.batches))

-- so it is with the run of each trace, wherever it is cut in two
abbrev pub TheRunSeesOneServer : (Executes : Node → Type 0) → Type 0
TheRunSeesOneServer Executes = (settings : Settings) (liar : ℕ → Bool) (earlier later : List TraceEvent) (last : Run) (output : List ℕ)
    → EventsRun Executes (clients_of settings) (earlier ++ later) (new_run settings) last output
    → AskOnce liar (requests_in earlier ++ requests_in later)
    → (middle : Run) × (printed rest : List ℕ) × EventsRun Executes (clients_of settings) earlier (new_run settings) middle printed × (output ≡ printed ++ rest)
    × SeesOneServer (deployment settings liar) (requests_in earlier) (requests_in earlier ++ requests_in later) middle.world last.world printed rest
