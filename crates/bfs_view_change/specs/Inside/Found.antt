-- What the code has found, as a candidate.
use Rattle.std.specs.Arc.{arc_value}
use Rattle.bfs_view_change.specs.Changes.Choice.{Candidate}
use Rattle.bfs_view_change.specs.declared.choice.Found.{Found}

abbrev pub seen : Found → Candidate
seen found = record { view = found.view; sender = found.sender; batch = arc_value found.batch.now }
