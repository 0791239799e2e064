-- A run: blocks, events one after another, and the end.
use Rattle.std.proofs.Common.{◌≡◌, ◌∙◌, ℕ, ◌+◌, ◌<◌, List, [], ◌∷◌, ◌++◌, Option, Some, filter, length, map, take, get_or, refl, sym, ap, subst, append_assoc, append-nil}
use Rattle.std.specs.List.{cons_option, filter_map}
use Rattle.std.proofs.lemmas.List.{take_more}
use Rattle.bfs_clients.specs.Clients.{Clients, clients_of, signed_request}
use Rattle.bfs_clients.specs.Tallies.{waits}
use Rattle.bfs_cluster.specs.Blocks.{with_block}
use Rattle.bfs_cluster.specs.Standings.{standings}
use Rattle.bfs_cluster.specs.World.{World}
use Rattle.bfs_cluster.specs.declared.standings.Standing.{Standing}
use Rattle.bfs_node.specs.Nodes.{Messages, Node}
use Rattle.bfs_settings.specs.Settings.{Settings}
use Rattle.bfs_trace.specs.Events.{Block, Request}
use Rattle.bfs_trace.specs.declared.events.TraceEvent.{TraceEvent}
use Rattle.bfs_replay.specs.Inside.Settling.{SettlesAnd, TimesOut}
use Rattle.bfs_replay.specs.Outcomes.{outcome_of}
use Rattle.bfs_replay.specs.Output.{answered_lines, result_lines, standing_lines, view_lines}
use Rattle.bfs_replay.specs.Runs.{BlockRuns, EventRuns, EventsRun, Run, TimeoutRuns, TraceRuns, as_message, counted, digest_in, higher_view, new_run, sent_requests, unanswered}
use Rattle.bfs_replay.specs.declared.outcome.Outcome.{Outcome}

-- what is signed of a block's requests
pub signed_alike : (clients : Clients) (requests : List Request) → filter_map (signed_request clients) (map as_message requests) ≡ sent_requests clients requests
signed_alike clients [] = refl
signed_alike clients (request ∷ requests) = ap (cons_option (signed_request clients (as_message request))) (signed_alike clients requests)

-- a block, once all has settled
pub block_run : {Executes : Node → Type 0} (clients : Clients) (block : Block) (run next : Run) (world : World) (replies : Messages) → SettlesAnd Executes (with_block run.world block.time (sent_requests clients block.requests)) world replies
    → next ≡ record { world = world; waiting = counted clients replies run.waiting ++ unanswered clients replies block.requests; time = block.time; view = run.view }
    → BlockRuns Executes clients block run next (result_lines clients replies block.requests)
block_run clients block run next world replies sends next_is =
    record {
      settled = sends.settled;
      settles = sends.settles;
      next_is = next_is
          ∙ ap (λ (w : World). record { world = w; waiting = counted clients replies run.waiting ++ unanswered clients replies block.requests; time = block.time; view = run.view }) sends.next_is
          ∙ ap (λ (those : Messages). record {
            world = record sends.settled { replies = [] };
            waiting = counted clients those run.waiting ++ unanswered clients those block.requests;
            time = block.time;
            view = run.view;
          }) sends.replies_are;
      output_is = ap (λ (those : Messages). result_lines clients those block.requests) sends.replies_are;
    }

-- a timeout, once all has settled twice
pub timeout_run : {Executes : Node → Type 0} (clients : Clients) (run next : Run) (world : World) (view : Option ℕ) (replies : Messages) → TimesOut Executes run.time run.world world view replies
    → next ≡ record { world = world; waiting = filter waits (counted clients replies run.waiting); time = run.time; view = higher_view run.view view }
    → TimeoutRuns Executes clients run next (view_lines run.view (higher_view run.view view) ++ answered_lines (counted clients replies run.waiting))
timeout_run clients run next world view replies out next_is =
    record {
      asked = out.asked;
      settled = out.goes_on.settled;
      asks = out.asks;
      settles = out.goes_on.settles;
      next_is = next_is
          ∙ ap (λ (w : World). record { world = w; waiting = filter waits (counted clients replies run.waiting); time = run.time; view = higher_view run.view view }) out.goes_on.next_is
          ∙ ap (λ (those : Messages). record {
            world = record out.goes_on.settled { replies = [] };
            waiting = filter waits (counted clients those run.waiting);
            time = run.time;
            view = higher_view run.view view;
          }) out.goes_on.replies_are
          ∙ ap (λ (in_view : Option ℕ). record {
            world = record out.goes_on.settled { replies = [] };
            waiting = filter waits (counted clients out.goes_on.settled.replies run.waiting);
            time = run.time;
            view = higher_view run.view in_view;
          }) out.view_is;
      output_is = ap (λ (now : ℕ). view_lines run.view now ++ answered_lines (counted clients replies run.waiting)) (sym (ap (λ (one : Run). one.view) next_is))
          ∙ ap (λ (those : Messages). view_lines run.view next.view ++ answered_lines (counted clients those run.waiting)) out.goes_on.replies_are;
    }

-- an event behind others
pub one_behind : (Executes : Node → Type 0) (clients : Clients) (events : List TraceEvent) (event : TraceEvent) (run last next : Run) (output more : List ℕ) → EventsRun Executes clients events run last output
    → EventRuns Executes clients event last next more → EventsRun Executes clients (events ++ event ∷ []) run next (output ++ more)
one_behind Executes clients [] event run last next output more ran runs =
    (next, more, [], subst (λ (from : Run). EventRuns Executes clients event from next more) ran.0 runs, (refl, refl), ap (λ (before : List ℕ). before ++ more) ran.1 ∙ sym (append-nil more))
one_behind Executes clients (first ∷ events) event run last next output more (mid, said, rest, happens, ran, is) runs =
    (mid, said, rest ++ more, happens, one_behind Executes clients events event mid last next rest more ran runs, ap (λ (before : List ℕ). before ++ more) is ∙ append_assoc said rest more)

pub one_more : (Executes : Node → Type 0) (clients : Clients) (events : List TraceEvent) (i : ℕ) (event : TraceEvent) (run last next : Run) (output more : List ℕ) → i < length events → event ≡ get_or events i event
    → EventsRun Executes clients (take i events) run last output → EventRuns Executes clients event last next more → EventsRun Executes clients (take (i + 1) events) run next (output ++ more)
one_more Executes clients events i event run last next output more within is ran runs =
    subst (λ (all : List TraceEvent). EventsRun Executes clients all run next (output ++ more))
    (sym (take_more events i event within ∙ ap (λ (one : TraceEvent). take i events ++ one ∷ []) (sym is)))
    (one_behind Executes clients (take i events) event run last next output more ran runs)

-- all events, and then what stands at the end
pub trace_run : {Executes : Node → Type 0} (settings : Settings) (events : List TraceEvent) (clients : Clients) (first last : Run) (before : List ℕ) (stands : List Standing) (digests : List (List ℕ)) (outcome : Outcome)
    → clients ≡ clients_of settings → first ≡ new_run settings → EventsRun Executes clients events first last before → standings last.world ≡ Some stands
    → digests ≡ filter_map digest_in stands → outcome ≡ outcome_of digests → TraceRuns Executes settings events (before ++ standing_lines stands) outcome
trace_run {Executes} settings events clients first last before stands digests outcome clients_are first_is ran stands_are digests_are outcome_is =
    record {
      last = last;
      before = before;
      stands = stands;
      events_run = subst (λ (those : Clients). EventsRun Executes those events (new_run settings) last before) clients_are
          (subst (λ (from : Run). EventsRun Executes clients events from last before) first_is ran);
      stands_are = stands_are;
      output_is = refl;
      outcome_is = outcome_is ∙ ap outcome_of digests_are;
    }
