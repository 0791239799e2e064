use Rattle.std.proofs.Common.{◌≡◌, take}
use Rattle.bfs_log.proofs.copies.copy_of.Given as goal

abbrev pub invariant-loop-signed : goal.invariant-loop-signed
invariant-loop-signed l = l.copy ≡ take l.signed-index l.messages
