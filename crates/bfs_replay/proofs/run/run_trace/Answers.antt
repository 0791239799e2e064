use Rattle.std.proofs.Common.{◌++◌, List, refl, subst}
use Rattle.std.specs.List.{filter_map}
use Rattle.std.proofs.lemmas.Result.{err_from_is_err_and}
use Rattle.bfs_trace.specs.declared.events.TraceEvent.{TraceEvent}
use Rattle.bfs_node.specs.Executing.{Runs}
use Rattle.bfs_replay.specs.Output.{standing_lines}
use Rattle.bfs_replay.specs.Runs.{EventsRun, digest_in}
use Rattle.bfs_replay.proofs.Running.{trace_run}
use Rattle.bfs_replay.proofs.Stopping.{trace_first, trace_last}
use Rattle.bfs_replay.proofs.Writes.{Writes-trans}
use Rattle.bfs_replay.proofs.run.run_trace.Goals as goal

pub returns : goal.returns
returns g c =
    let ran = c.in_ok-run_events.ensures.ok in
    let ended = c.in_ok-outcome.ensures.ok in
    record {
      ok = (
        ran.0 ++ standing_lines ended.0,
        trace_run c.args.settings.now c.args.trace.now c.in_ok-clients.clients c.in_ok-run.run' c.run_events.new.run ran.0 ended.0 (filter_map digest_in ended.0) c.in_ok-outcome.outcome
            c.in_ok-clients.ensures c.in_ok-run.ensures
            (subst (λ (events : List TraceEvent). EventsRun (Runs g.G.Gate.ran c.args.executor.engine) c.in_ok-clients.clients events c.in_ok-run.run' c.run_events.new.run ran.0) c.events.ensures ran.1)
            ended.1 refl ended.2,
        Writes-trans c.args.output.now c.run_events.new.output c.end.new.output ran.0 (standing_lines ended.0) ran.2 ended.3,
      );
      stops = tt;
    }

pub returns-in_err-run-clause-stops : goal.returns-in_err-run-clause-stops
returns-in_err-run-clause-stops g c =
    let p = err_from_is_err_and c.from_residual-in_err-run.result c.from_residual-in_err-run.ensures.1 in
    rw (p.1, p.2) (trace_first (Runs g.G.Gate.ran c.args.executor.engine) c.args.settings.now c.args.trace.now c.args.output.now)

pub returns-in_err-outcome-clause-stops : goal.returns-in_err-outcome-clause-stops
returns-in_err-outcome-clause-stops g c =
    let ran = c.in_ok-run_events.ensures.ok in
    let p = err_from_is_err_and c.from_residual-in_err-outcome.result c.from_residual-in_err-outcome.ensures.1 in
    rw (p.1, p.2) (trace_last (Runs g.G.Gate.ran c.args.executor.engine) c.args.settings.now c.args.trace.now c.in_ok-clients.clients c.in_ok-run.run' c.run_events.new.run ran.0
    _ c.args.output.now c.run_events.new.output c.end.new.output c.in_ok-clients.ensures c.in_ok-run.ensures
    (subst (λ (events : List TraceEvent). EventsRun (Runs g.G.Gate.ran c.args.executor.engine) c.in_ok-clients.clients events c.in_ok-run.run' c.run_events.new.run ran.0) c.events.ensures ran.1)
    ran.2 c.in_err-outcome.ensures.stops)
