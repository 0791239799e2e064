-- Where the parts of a run stop.
use Rattle.std.specs.Prelude.{◌≡◌, ℕ, List, [], ◌⊎◌, Some}
use Rattle.bfs_clients.specs.Clients.{Clients}
use Rattle.bfs_cluster.specs.Standings.{standings}
use Rattle.bfs_cluster.specs.World.{World}
use Rattle.bfs_cluster.specs.declared.standings.Standing.{Standing}
use Rattle.bfs_node.specs.Nodes.{Node}
use Rattle.bfs_trace.specs.declared.events.TraceEvent.{TraceEvent}
use Rattle.bfs_replay.specs.Output.{standing_lines}
use Rattle.bfs_replay.specs.Runs.{EventRuns, Run}
use Rattle.bfs_replay.specs.Writing.{IsBeginning}

-- what is written of an event that stops: nothing, or a beginning of what it prints
abbrev pub EventStops : (Executes : Node → Type 0) → Clients → TraceEvent → (run : Run) → (written : List ℕ) → Type 0
EventStops Executes clients event run written =
    (written ≡ []) ⊎ ((next : Run) × (output : List ℕ) × EventRuns Executes clients event run next output × IsBeginning written output)

-- what is written of the standings where their printing stops
abbrev pub EndStops : World → (written : List ℕ) → Type 0
EndStops world written = (written ≡ []) ⊎ ((stands : List Standing) × (standings world ≡ Some stands) × IsBeginning written (standing_lines stands))
