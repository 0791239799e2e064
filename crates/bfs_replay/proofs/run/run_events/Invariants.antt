-- The replicas, and what was written, are those after the events so far.
use Rattle.std.proofs.Common.{ℕ, List, take}
use Rattle.bfs_node.specs.Executing.{Runs}
use Rattle.bfs_replay.specs.Runs.{EventsRun}
use Rattle.bfs_replay.specs.Writing.{Writes}
use Rattle.bfs_replay.proofs.run.run_events.Given as goal

abbrev pub invariant-loop-event : goal.invariant-loop-event
invariant-loop-event g l =
    (lines : List ℕ) × EventsRun (Runs g.G.Gate.ran l.means.executor.engine) l.clients (take l.event-index l.events) l.fn.run l.run lines × Writes l.fn.output l.output lines
