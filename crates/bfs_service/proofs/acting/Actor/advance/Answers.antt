use Rattle.bfs_service.specs.Acting.{IsOwn}
use Rattle.bfs_service.proofs.Doing.{goes_both}
use Rattle.bfs_service.proofs.acting.Actor.advance.Goals as goal

pub loop-preserved : goal.loop-preserved
loop-preserved g c =
    let own = IsOwn c.args.time in
    goes_both own c.args.self.now c.loop.self c.act_own-in-loop-2.new.self c.loop.invariant
    (goes_both own c.loop.self c.act_own-in-loop.new.self c.act_own-in-loop-2.new.self c.in_ok-act_own-2.ensures c.in_ok-act_own-3.ensures)
