use Rattle.bfs_service.specs.Acting.{IsOwn}
use Rattle.bfs_service.proofs.Doing.{goes_both}
use Rattle.bfs_service.proofs.service.Service.catch_up.Goals as goal

pub returns : goal.returns
returns g c =
    let own = IsOwn c.args.time in
    let last = c.advance.new.self in
    goes_both own c.args.self.now c.take_over.new.self last c.in_ok-take_over.ensures
    (goes_both own c.take_over.new.self c.forget_answered.new.self last c.in_ok-forget_answered.ensures c.in_ok-advance.ensures)
