use Rattle.std.proofs.Common.{◌≡◌, take}
use Rattle.bfs_checkpoints.specs.Collecting.{right_checkpoints}
use Rattle.bfs_checkpoints.proofs.collecting.right_checkpoints.Given as goal

abbrev pub invariant-loop-signed : goal.invariant-loop-signed
invariant-loop-signed l = l.found.items ≡ right_checkpoints l.keys l.f l.number l.digest (take l.signed-index l.told)
