use Rattle.std.proofs.Common.{map}
use Rattle.bfs_frames.specs.Parcels.{told_by}
use Rattle.bfs_service.specs.Telling.{HasGiven}
use Rattle.bfs_service.proofs.resending.give_again.Given as goal

abbrev pub invariant-loop-number : goal.invariant-loop-number
invariant-loop-number l = HasGiven l.node (map told_by l.initial.parcels.items) (map told_by l.parcels.items)
