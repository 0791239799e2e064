use Rattle.bfs_service.specs.Acting.{IsTaking}
use Rattle.bfs_service.specs.Journals.{Goes}
use Rattle.bfs_service.proofs.acting.Actor.offer_all.Given as goal

abbrev pub invariant-loop-request : goal.invariant-loop-request
invariant-loop-request g l = Goes IsTaking l.fn.self l.self
