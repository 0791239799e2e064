use Rattle.bfs_service.specs.Acting.{IsOwn}
use Rattle.bfs_service.proofs.Doing.{goes_both}
use Rattle.bfs_service.proofs.service.Service.hear_all.Goals as goal

pub loop-frame-preserved : goal.loop-frame-preserved
loop-frame-preserved g c =
    goes_both (IsOwn c.args.time) c.args.self.now c.loop-frame.self c.hear.new.self c.loop-frame.invariant c.in_ok-hear.ensures
