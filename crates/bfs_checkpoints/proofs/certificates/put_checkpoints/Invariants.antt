use Rattle.std.proofs.Common.{◌≡◌, ◌++◌, take}
use Rattle.bfs_checkpoints.specs.Certificates.{checkpoints}
use Rattle.bfs_checkpoints.proofs.certificates.put_checkpoints.Given as goal

abbrev pub invariant-loop-signed : goal.invariant-loop-signed
invariant-loop-signed l = l.copies.items ≡ l.fn.copies.items ++ checkpoints l.number l.digest (take l.signed-index l.log)
