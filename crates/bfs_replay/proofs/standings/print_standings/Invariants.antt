-- The lines so far are those of the first replicas.
use Rattle.std.proofs.Common.{take}
use Rattle.bfs_replay.specs.Output.{standing_lines}
use Rattle.bfs_replay.specs.Writing.{Writes}
use Rattle.bfs_replay.proofs.standings.print_standings.Given as goal

abbrev pub invariant-loop-standing : goal.invariant-loop-standing
invariant-loop-standing g l =
    Writes l.fn.output l.output (standing_lines (take l.standing-index l.standings))
