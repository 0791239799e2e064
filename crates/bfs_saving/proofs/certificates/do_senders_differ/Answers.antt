use Rattle.std.proofs.Common.{arith}
use Rattle.bfs_saving.proofs.Seen.{ends, goes_on}
use Rattle.bfs_saving.proofs.certificates.do_senders_differ.Goals as goal

pub returns-then-not-branch : goal.returns-then-not-branch
returns-then-not-branch c =
    ends c.args.checkpoints.now c.loop-signed.signed-index c.signed-item.result (omega (arith, c.loop-signed-test.true)) c.signed-item.is c.loop-signed.seen c.loop-signed.invariant.0 c.sender.result c.sender.ensures
    c.in_ok-insert.field-0 c.in_ok-insert.ensures.added c.if-not-branch.true

pub loop-signed-preserved : goal.loop-signed-preserved
loop-signed-preserved c =
    goes_on c.args.checkpoints.now c.loop-signed.signed-index c.signed-item.result (omega (arith, c.loop-signed-test.true)) c.signed-item.is c.loop-signed.seen c.loop-signed.invariant.0 c.sender.result c.sender.ensures
    c.in_ok-insert.field-0 c.in_ok-insert.ensures.added c.insert.new.self c.loop-signed.invariant.1 c.in_ok-insert.ensures.updates c.if-not-branch.false
