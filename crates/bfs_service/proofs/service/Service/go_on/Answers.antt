use Rattle.std.proofs.Common.{subst}
use Rattle.bfs_service.specs.Acting.{IsOwn}
use Rattle.bfs_service.specs.Journals.{Doing, Goes}
use Rattle.bfs_service.proofs.Doing.{goes_both}
use Rattle.bfs_service.proofs.service.Service.go_on.Goals as goal

pub returns : goal.returns
returns g c =
    let own = IsOwn c.args.time in
    let last = c.leave.new.self in
    goes_both own c.args.self.now c.advance.new.self last c.in_ok-advance.ensures
    (goes_both own c.advance.new.self c.hear_all.new.self last c.in_ok-hear_all.ensures
    (subst (λ (a : Doing). Goes own a last) c.in_ok-due.ensures
    (goes_both own c.look.new.self c.propose.new.self last c.in_ok-propose.ensures c.in_ok-leave.ensures)))
