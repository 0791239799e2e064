-- The run of a trace: what its events do to replicas and clients, and what is printed. `Executes` says by what a node executes.
use Rattle.std.specs.Prelude.{◌≡◌, ℕ, ◌++◌, max, List, [], ◌∷◌, filter, fold, map, take, ◌⊎◌, Option, Some, None, true, false}
use Rattle.std.specs.List.{filter_map}
use Rattle.bfs_clients.specs.Clients.{Clients, clients_of, signed_request}
use Rattle.bfs_clients.specs.Tallies.{Tally, tallied_by, tally_of, waits}
use Rattle.bfs_cluster.specs.Blocks.{with_block}
use Rattle.bfs_cluster.specs.Standings.{common_view, standings}
use Rattle.bfs_cluster.specs.Steps.{Settles}
use Rattle.bfs_cluster.specs.Timeouts.{with_timeout, with_waiting}
use Rattle.bfs_cluster.specs.World.{World, hearing, new_world}
use Rattle.bfs_cluster.specs.declared.standings.Standing.{Standing}
use Rattle.bfs_cluster.specs.declared.standings.Standing.TheVariants as standing
use Rattle.bfs_messages.specs.Messages as model
use Rattle.bfs_model.specs.Server.Tree.{Time, epoch}
use Rattle.bfs_node.specs.Nodes.{Messages, Node}
use Rattle.bfs_settings.specs.Settings.{Settings}
use Rattle.bfs_trace.specs.Events.{Block, Request}
use Rattle.bfs_trace.specs.declared.events.TraceEvent.{TraceEvent}
use Rattle.bfs_trace.specs.declared.events.TraceEvent.TheVariants as event
use Rattle.bfs_replay.specs.Outcomes.{outcome_of}
use Rattle.bfs_replay.specs.Output.{answered_lines, result_lines, standing_lines, view_lines}
use Rattle.bfs_replay.specs.Writing.{IsBeginning}
use Rattle.bfs_replay.specs.declared.outcome.Outcome.{Outcome}

pub record Run : Type 0 where
  pub world : World
  -- the tallies of requests whose lines have told no result, by the order of those lines
  pub waiting : List Tally
  -- the last block's
  pub time : Time
  -- the one that was printed last
  pub view : ℕ

-- before any event; no view above 0 has a line yet
abbrev pub new_run : Settings → Run
new_run settings = record { world = new_world settings; waiting = []; time = epoch; view = 0 }

-- Requests that wait ---------------------------------------------------------------------------------------------------

-- tallies once replies have come too
abbrev pub counted : Clients → (replies : Messages) → List Tally → List Tally
counted clients replies tallies = map (λ tally. fold (tallied_by clients) tally replies) tallies

-- of requests whose clients make no result of the replies
abbrev pub unanswered : Clients → (replies : Messages) → List Request → List Tally
unanswered clients replies requests = filter waits (map (λ request. tally_of clients replies request.client request.timestamp) requests)

-- Events ---------------------------------------------------------------------------------------------------------------

abbrev pub as_message : Request → model.Request
as_message request = record { client = request.client; timestamp = request.timestamp; call = request.call }

-- as their clients send them
abbrev pub sent_requests : Clients → List Request → Messages
sent_requests clients requests = filter_map (λ request. signed_request clients (as_message request)) requests

abbrev pub after_block : Clients → Block → Run → (settled : World) → Run
after_block clients block run settled = record {
  world = record settled { replies = [] };
  waiting = counted clients settled.replies run.waiting ++ unanswered clients settled.replies block.requests;
  time = block.time;
  view = run.view;
}

-- the requests of a block come to the replicas and all settles; each line says what its client makes of the replies that were sent meanwhile
pub record BlockRuns (Executes : Node → Type 0) (clients : Clients) (block : Block) (run next : Run) (output : List ℕ) : Type 0 where
  pub settled : World
  pub settles : Settles Executes (with_block run.world block.time (sent_requests clients block.requests)) settled
  pub next_is : next ≡ after_block clients block run settled
  pub output_is : output ≡ result_lines clients settled.replies block.requests

-- the higher one of the view that was printed last and that which 2f + 1 replicas are in, if they are in one
abbrev pub higher_view : (printed : ℕ) → Option ℕ → ℕ
higher_view printed None = printed
higher_view printed (Some view) = max printed view

abbrev pub after_timeout : Clients → Run → (asked settled : World) → Run
after_timeout clients run asked settled = record {
  world = record settled { replies = [] };
  waiting = filter waits (counted clients settled.replies run.waiting);
  time = run.time;
  view = higher_view run.view (common_view asked);
}

-- replicas ask for the next view and all settles; then primaries propose the requests that wait there, and all settles again. A line tells
-- the view if it is a new one, and there is one for each request that was waiting and has a result now
pub record TimeoutRuns (Executes : Node → Type 0) (clients : Clients) (run next : Run) (output : List ℕ) : Type 0 where
  pub asked : World
  pub settled : World
  pub asks : Settles Executes (with_timeout run.world) asked
  pub settles : Settles Executes (with_waiting asked run.time) settled
  pub next_is : next ≡ after_timeout clients run asked settled
  pub output_is : output ≡ view_lines run.view next.view ++ answered_lines (counted clients settled.replies run.waiting)

-- who falls silent or is heard prints nothing
abbrev pub EventRuns : (Executes : Node → Type 0) → Clients → TraceEvent → (run next : Run) → (output : List ℕ) → Type 0
EventRuns Executes clients (event.Block block) run next output = BlockRuns Executes clients block run next output
EventRuns Executes clients (event.Silent replica) run next output = (next ≡ record run { world = hearing false run.world replica }) × (output ≡ [])
EventRuns Executes clients (event.Heard replica) run next output = (next ≡ record run { world = hearing true run.world replica }) × (output ≡ [])
EventRuns Executes clients event.Timeout run next output = TimeoutRuns Executes clients run next output

-- one after another
abbrev pub EventsRun : (Executes : Node → Type 0) → Clients → List TraceEvent → (run last : Run) → (output : List ℕ) → Type 0
EventsRun Executes clients [] run last output = (last ≡ run) × (output ≡ [])
EventsRun Executes clients (event ∷ events) run last output =
    (next : Run) × (first : List ℕ) × (rest : List ℕ) × EventRuns Executes clients event run next first × EventsRun Executes clients events next last rest × (output ≡ first ++ rest)

-- The end --------------------------------------------------------------------------------------------------------------

abbrev pub digest_in : Standing → Option (List ℕ)
digest_in (standing.Digest replica digest) = Some digest
digest_in (standing.Behind replica last) = None

-- behind what the events print stands where the replicas are; the digests that are printed are those that are compared
pub record TraceRuns (Executes : Node → Type 0) (settings : Settings) (events : List TraceEvent) (output : List ℕ) (outcome : Outcome) : Type 0 where
  pub last : Run
  pub before : List ℕ
  pub stands : List Standing
  pub events_run : EventsRun Executes (clients_of settings) events (new_run settings) last before
  pub stands_are : standings last.world ≡ Some stands
  pub output_is : output ≡ before ++ standing_lines stands
  pub outcome_is : outcome ≡ outcome_of (filter_map digest_in stands)

-- Where it stops ---------------------------------------------------------------------------------------------------------

-- what is written of events of which one stops: a beginning of what the first so many print
abbrev pub EventsStop : (Executes : Node → Type 0) → Clients → List TraceEvent → (run : Run) → (written : List ℕ) → Type 0
EventsStop Executes clients events run written =
    (count : ℕ) × (last : Run) × (output : List ℕ) × EventsRun Executes clients (take count events) run last output × IsBeginning written output

-- what is written of a run that stops: that, or a beginning of its whole output
abbrev pub TraceStops : (Executes : Node → Type 0) → Settings → List TraceEvent → (written : List ℕ) → Type 0
TraceStops Executes settings events written =
    EventsStop Executes (clients_of settings) events (new_run settings) written
    ⊎ ((output : List ℕ) × (outcome : Outcome) × TraceRuns Executes settings events output outcome × IsBeginning written output)
