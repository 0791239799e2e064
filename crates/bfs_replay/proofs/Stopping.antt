-- What is written of an event, of events and of a run that stop.
use Rattle.std.proofs.Common.{◌≡◌, ◌∙◌, ℕ, ◌+◌, ◌<◌, List, [], ◌++◌, Some, length, take, get_or, refl, sym, subst, inl, inr, arith, append-nil}
use Rattle.std.specs.List.{filter_map}
use Rattle.std.proofs.lemmas.List.{take_all}
use Rattle.bfs_clients.specs.Clients.{Clients, clients_of}
use Rattle.bfs_cluster.specs.Standings.{standings}
use Rattle.bfs_cluster.specs.World.{World}
use Rattle.bfs_cluster.specs.declared.standings.Standing.{Standing}
use Rattle.bfs_node.specs.Nodes.{Node}
use Rattle.bfs_settings.specs.Settings.{Settings}
use Rattle.bfs_trace.specs.declared.events.TraceEvent.{TraceEvent}
use Rattle.bfs_replay.specs.Inside.Stopping.{EndStops, EventStops}
use Rattle.bfs_replay.specs.Outcomes.{outcome_of}
use Rattle.bfs_replay.specs.Output.{standing_lines}
use Rattle.bfs_replay.specs.Runs.{EventRuns, EventsRun, EventsStop, Run, TraceStops, digest_in, new_run}
use Rattle.bfs_replay.specs.Writing.{IsBeginning, Stops, Writes, Written}
use Rattle.bfs_replay.specs.declared.run.ReplayError.{ReplayError}
use Rattle.bfs_replay.specs.declared.run.ReplayError.TheVariants.{Memory}
use Rattle.bfs_replay.proofs.Running.{one_more, trace_run}
use Rattle.bfs_replay.proofs.Writes.{all_begins, begins_behind, none_begins, stops_as, stops_behind, stops_first, stops_last}

-- where no more is written
nothing_more : (lines : List ℕ) → IsBeginning (lines ++ []) lines
nothing_more lines = ([], sym (append-nil lines) ∙ sym (append-nil (lines ++ [])))

module _ (Executes : Node → Type 0) (clients : Clients) (event : TraceEvent) (run : Run) where
  abbrev Part : List ℕ → Type 0
  Part = EventStops Executes clients event run

  -- before anything was written
  pub event_first : (w : Written) → Stops Memory w w Part
  event_first w = stops_first Part w (inl refl)

  -- within its lines
  pub event_within : (next : Run) (lines : List ℕ) (error : ReplayError) (a b : Written) → EventRuns Executes clients event run next lines → Stops error a b (λ written. IsBeginning written lines) → Stops error a b Part
  event_within next lines error a b runs stops = stops_as (λ written. IsBeginning written lines) Part error a b (λ written begins. inr (next, lines, runs, begins)) stops

  -- behind its lines
  pub event_last : (next : Run) (lines : List ℕ) (a b : Written) → EventRuns Executes clients event run next lines → Writes a b lines → Stops Memory a b Part
  event_last next lines a b runs writes = stops_last Part a b lines writes (inr (next, lines, runs, all_begins lines))

module _ (Executes : Node → Type 0) (clients : Clients) (events : List TraceEvent) (i : ℕ) (event : TraceEvent) (run last : Run) (lines : List ℕ) where
  joins : i < length events → event ≡ get_or events i event → EventsRun Executes clients (take i events) run last lines
      → (written : List ℕ) → EventStops Executes clients event last written → EventsStop Executes clients events run (lines ++ written)
  joins within is ran written (inl none) = (i, last, lines, ran, subst (λ (more : List ℕ). IsBeginning (lines ++ more) lines) (sym none) (nothing_more lines))
  joins within is ran written (inr (next, more, runs, begins)) =
      (i + 1, next, lines ++ more, one_more Executes clients events i event run last next lines more within is ran runs, begins_behind lines written more begins)

  -- an event stops behind others
  pub events_stop : (error : ReplayError) (a b c : Written) → i < length events → event ≡ get_or events i event → EventsRun Executes clients (take i events) run last lines → Writes a b lines
      → Stops error b c (EventStops Executes clients event last) → Stops error a c (EventsStop Executes clients events run)
  events_stop error a b c within is ran writes stops =
      stops_behind (EventStops Executes clients event last) (EventsStop Executes clients events run) error a b c lines writes (joins within is ran) stops

-- where replicas stand
module _ (world : World) where
  pub end_first : (w : Written) → Stops Memory w w (EndStops world)
  end_first w = stops_first (EndStops world) w (inl refl)

  pub end_within : (stands : List Standing) (error : ReplayError) (a b : Written) → standings world ≡ Some stands → Stops error a b (λ written. IsBeginning written (standing_lines stands))
      → Stops error a b (EndStops world)
  end_within stands error a b are stops = stops_as (λ written. IsBeginning written (standing_lines stands)) (EndStops world) error a b (λ written begins. inr (stands, are, begins)) stops

  pub end_last : (stands : List Standing) (a b : Written) → standings world ≡ Some stands → Writes a b (standing_lines stands) → Stops Memory a b (EndStops world)
  end_last stands a b are writes = stops_last (EndStops world) a b (standing_lines stands) writes (inr (stands, are, all_begins (standing_lines stands)))

module _ (Executes : Node → Type 0) (settings : Settings) (events : List TraceEvent) where
  abbrev Whole : List ℕ → Type 0
  Whole = TraceStops Executes settings events

  -- before any event
  pub trace_first : (w : Written) → Stops Memory w w Whole
  trace_first w = stops_first Whole w (inl (0, new_run settings, [], (refl, refl), none_begins []))

  -- within the events
  pub trace_within : (clients : Clients) (run : Run) (error : ReplayError) (a b : Written) → clients ≡ clients_of settings → run ≡ new_run settings
      → Stops error a b (EventsStop Executes clients events run) → Stops error a b Whole
  trace_within clients run error a b clients_are run_is stops =
      stops_as (EventsStop Executes clients events run) Whole error a b
      (λ written part. inl (subst (λ (those : Clients). EventsStop Executes those events (new_run settings) written) clients_are
      (subst (λ (from : Run). EventsStop Executes clients events from written) run_is part)))
      stops

  ends : (clients : Clients) (run last : Run) (lines : List ℕ) → clients ≡ clients_of settings → run ≡ new_run settings → EventsRun Executes clients events run last lines
      → (written : List ℕ) → EndStops last.world written → Whole (lines ++ written)
  ends clients run last lines clients_are run_is ran written (inl none) =
      let all : EventsRun Executes clients (take (length events) events) run last lines =
      subst (λ (those : List TraceEvent). EventsRun Executes clients those run last lines) (sym (take_all (length events) events (omega arith))) ran in
      inl (
        length events,
        last,
        lines,
        subst (λ (those : Clients). EventsRun Executes those (take (length events) events) (new_run settings) last lines) clients_are
            (subst (λ (from : Run). EventsRun Executes clients (take (length events) events) from last lines) run_is all),
        subst (λ (more : List ℕ). IsBeginning (lines ++ more) lines) (sym none) (nothing_more lines),
      )
  ends clients run last lines clients_are run_is ran written (inr (stands, are, begins)) =
      inr (
        lines ++ standing_lines stands,
        outcome_of (filter_map digest_in stands),
        trace_run settings events clients run last lines stands (filter_map digest_in stands) (outcome_of (filter_map digest_in stands)) clients_are run_is ran are refl refl,
        begins_behind lines written (standing_lines stands) begins,
      )

  -- behind all events
  pub trace_last : (clients : Clients) (run last : Run) (lines : List ℕ) (error : ReplayError) (a b c : Written) → clients ≡ clients_of settings → run ≡ new_run settings
      → EventsRun Executes clients events run last lines → Writes a b lines → Stops error b c (EndStops last.world) → Stops error a c Whole
  trace_last clients run last lines error a b c clients_are run_is ran writes stops =
      stops_behind (EndStops last.world) Whole error a b c lines writes (ends clients run last lines clients_are run_is ran) stops
