use Rattle.std.proofs.Common.{arith}
use Rattle.bfs_checkpoints.proofs.Certifying.{next_told}
use Rattle.bfs_checkpoints.proofs.certificates.put_checkpoints.Goals as goal

pub loop-signed-preserved : goal.loop-signed-preserved
loop-signed-preserved c =
    next_told c.args.number c.args.digest.now c.args.log.now c.loop-signed.signed-index c.signed-item.result _ _ _ c.loop-signed.invariant c.in_ok-put_checkpoint.ensures (omega (arith, c.loop-signed-test.true)) c.signed-item.is
