use Rattle.std.proofs.Common.{◌≡◌, take}
use Rattle.bfs_log.specs.Showing.{checkpoints_of}
use Rattle.bfs_log.proofs.showing.checkpoints_among.Given as goal

abbrev pub invariant-loop-signed : goal.invariant-loop-signed
invariant-loop-signed l = l.found.items ≡ checkpoints_of l.f l.number (take l.signed-index l.log)
