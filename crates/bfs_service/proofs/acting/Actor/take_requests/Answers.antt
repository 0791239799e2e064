use Rattle.bfs_service.proofs.Doing.{taking_goes}
use Rattle.bfs_service.proofs.acting.Actor.take_requests.Goals as goal

pub returns : goal.returns
returns g c = taking_goes _ c.args.self.now c.act.new.self c.in_ok-act.ensures tt
