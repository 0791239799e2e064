use Rattle.bfs_service.specs.Acting.{IsOwn}
use Rattle.bfs_service.specs.Journals.{Goes}
use Rattle.bfs_service.proofs.acting.Actor.advance.Given as goal

abbrev pub invariant-loop : goal.invariant-loop
invariant-loop g l = Goes (IsOwn l.time) l.fn.self l.self
