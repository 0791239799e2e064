use Rattle.std.proofs.Common.{◌<◌, ◌++◌, length, arith}
use Rattle.std.proofs.lemmas.Result.{err_from_is_err_and}
use Rattle.bfs_node.specs.Executing.{Runs}
use Rattle.bfs_replay.proofs.Running.{one_more}
use Rattle.bfs_replay.proofs.Stopping.{events_stop}
use Rattle.bfs_replay.proofs.Writes.{Writes-trans}
use Rattle.bfs_replay.proofs.run.run_events.Goals as goal

pub loop-event-preserved : goal.loop-event-preserved
loop-event-preserved g c =
    let within : c.loop-event.event-index < length c.args.events.now = omega arith in
    let before = c.loop-event.invariant in
    let one = c.in_ok-run_event.ensures.ok in (
      before.0 ++ one.0,
      one_more (Runs g.G.Gate.ran c.args.means.now.executor.engine) c.args.clients.now c.args.events.now c.loop-event.event-index c.event-item.result c.args.run.now c.loop-event.run c.run_event.new.run before.0 one.0 within c.event-item.is
          before.1 one.1,
      Writes-trans _ _ _ _ _ before.2 one.2,
    )

pub returns-in_err-run_event-clause-stops : goal.returns-in_err-run_event-clause-stops
returns-in_err-run_event-clause-stops g c =
    let within : c.loop-event.event-index < length c.args.events.now = omega arith in
    let before = c.loop-event.invariant in
    let p = err_from_is_err_and c.from_residual.result c.from_residual.ensures.1 in
    rw (p.1, p.2) (events_stop (Runs g.G.Gate.ran c.args.means.now.executor.engine) c.args.clients.now c.args.events.now c.loop-event.event-index c.event-item.result c.args.run.now c.loop-event.run before.0
    _ c.args.output.now c.loop-event.output _ within c.event-item.is before.1 before.2 c.in_err-run_event.ensures.stops)
