-- Lines of results, by tallies.
use Rattle.std.specs.Prelude.{ℕ, List}
use Rattle.std.specs.List.{flat_map}
use Rattle.bfs_clients.specs.Tallies.{Tally, agreed}
use Rattle.bfs_replay.specs.Output.{result_line}

-- the line of a tally's request
abbrev pub tally_line : Tally → List ℕ
tally_line tally = result_line tally.client tally.timestamp (agreed tally)

abbrev pub tally_lines : List Tally → List ℕ
tally_lines tallies = flat_map tally_line tallies
