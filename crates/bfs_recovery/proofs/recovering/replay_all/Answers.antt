use Rattle.bfs_recovery.proofs.Bodies.{next_made, not_all}
use Rattle.bfs_recovery.proofs.recovering.replay_all.Goals as goal

pub loop-body-preserved : goal.loop-body-preserved
loop-body-preserved g c =
    next_made c.args.node.now c.loop-body.node c.replay.new.node c.args.bodies.now c.loop-body.body-index _ c.loop-body-test.true c.loop-body.invariant c.in-Ok.ensures

pub returns-in-Err : goal.returns-in-Err
returns-in-Err g c =
    not_all c.args.node.now c.loop-body.node c.replay.new.node c.args.bodies.now c.loop-body.body-index _ c.loop-body-test.true c.loop-body.invariant c.in-Err.error c.in-Err.ensures
