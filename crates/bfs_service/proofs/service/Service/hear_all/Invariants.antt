use Rattle.bfs_service.specs.Acting.{IsOwn}
use Rattle.bfs_service.specs.Journals.{Goes}
use Rattle.bfs_service.proofs.service.Service.hear_all.Given as goal

abbrev pub invariant-loop-frame : goal.invariant-loop-frame
invariant-loop-frame g l = Goes (IsOwn l.time) l.fn.self l.self
