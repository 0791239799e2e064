use Rattle.std.proofs.Common.{◌≡◌, not, take}
use Rattle.std.specs.Prelude.{filter}
use Rattle.bfs_node.specs.Forgetting.{is_new}
use Rattle.bfs_node.proofs.forgetting.answered_among.Given as goal

abbrev pub invariant-loop-signed : goal.invariant-loop-signed
invariant-loop-signed l = l.answered.items ≡ filter (λ one. not (is_new l.table one)) (take l.signed-index l.waiting)
