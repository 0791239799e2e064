use Rattle.bfs_service.specs.Acting.{IsTaking}
use Rattle.bfs_service.proofs.Doing.{goes_both}
use Rattle.bfs_service.proofs.acting.Actor.offer_all.Goals as goal

pub loop-request-preserved : goal.loop-request-preserved
loop-request-preserved g c =
    goes_both IsTaking c.args.self.now c.loop-request.self c.offer.new.self c.loop-request.invariant c.in_ok-offer.ensures
