use Rattle.bfs_service.specs.Acting.{IsOwn}
use Rattle.bfs_service.proofs.Doing.{goes_both}
use Rattle.bfs_service.proofs.service.Service.propose.Goals as goal

pub returns : goal.returns
returns g c = goes_both (IsOwn c.args.time) c.args.self.now c.propose_now.new.self c.advance.new.self c.in_ok-propose_now.ensures c.in_ok-advance.ensures
