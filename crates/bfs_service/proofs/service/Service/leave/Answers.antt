use Rattle.bfs_service.specs.Acting.{IsOwn}
use Rattle.bfs_service.proofs.Doing.{goes_both}
use Rattle.bfs_service.proofs.service.Service.leave.Goals as goal

pub returns : goal.returns
returns g c =
    let own = IsOwn c.args.time in
    let last = c.advance.new.self in
    goes_both own c.args.self.now c.forget_proposed.new.self last c.in_ok-forget_proposed.ensures
    (goes_both own c.forget_proposed.new.self c.leave_now.new.self last c.in_ok-leave_now.ensures c.in_ok-advance.ensures)
