use Rattle.std.proofs.Common.{arith}
use Rattle.bfs_log.proofs.Latest.{noted}
use Rattle.bfs_log.proofs.logs.Log.all_latest.Goals as goal

pub loop-signed-preserved : goal.loop-signed-preserved
loop-signed-preserved c = (
  noted c.args.f c.args.me c.args.low c.args.count c.args.self.now c.messages-signed-items.result.now c.loop-signed.signed-index c.signed-item.result _ _ c.loop-signed.invariant.0 c.in_ok-note.ensures.len
      c.in_ok-note.ensures.each (omega (arith, c.loop-signed-test.true)) c.signed-item.is,
  c.loop-signed.invariant.1,
)
