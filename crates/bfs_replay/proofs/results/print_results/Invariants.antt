-- The lines so far are those of the first tallies.
use Rattle.std.proofs.Common.{take}
use Rattle.bfs_replay.specs.Inside.Results.{tally_lines}
use Rattle.bfs_replay.specs.Writing.{Writes}
use Rattle.bfs_replay.proofs.results.print_results.Given as goal

abbrev pub invariant-loop-tally : goal.invariant-loop-tally
invariant-loop-tally g l =
    Writes l.fn.output l.output (tally_lines (take l.tally-index l.tallies))
