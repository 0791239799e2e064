-- The lines so far are those of the first tallies.
use Rattle.std.proofs.Common.{take}
use Rattle.bfs_replay.specs.Output.{answered_lines}
use Rattle.bfs_replay.specs.Writing.{Writes}
use Rattle.bfs_replay.proofs.results.print_answered.Given as goal

abbrev pub invariant-loop-tally : goal.invariant-loop-tally
invariant-loop-tally g l =
    Writes l.fn.output l.output (answered_lines (take l.tally-index l.tallies))
