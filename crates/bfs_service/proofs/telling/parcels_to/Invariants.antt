use Rattle.std.proofs.Common.{◌≡◌, map, take}
use Rattle.bfs_frames.specs.Parcels.{told_by}
use Rattle.bfs_service.specs.Telling.{message_given}
use Rattle.bfs_service.proofs.telling.parcels_to.Given as goal

abbrev pub invariant-loop-signed : goal.invariant-loop-signed
invariant-loop-signed l = map told_by l.parcels.items ≡ map (message_given l.number) (take l.signed-index l.sent)
