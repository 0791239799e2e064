use Rattle.std.proofs.Common.{arith}
use Rattle.bfs_checkpoints.proofs.Collected.{shown}
use Rattle.bfs_checkpoints.proofs.collecting.collect.Goals as goal

pub returns-clause-shown : goal.returns-clause-shown
returns-clause-shown c =
    shown c.args.keys.now c.args.f c.args.number c.args.digest.now c.args.told.now c.in_ok-right.right.items c.new.result c.in_ok-right.ensures c.new.ensures (omega arith)
