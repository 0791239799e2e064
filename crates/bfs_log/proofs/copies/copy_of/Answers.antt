use Rattle.std.proofs.Common.{◌∙◌, arith}
use Rattle.bfs_log.proofs.FreeSlots.{free_in_copy}
use Rattle.bfs_log.proofs.copies.copy_of.Goals as goal

pub push-requires-clause-free : goal.push-requires-clause-free
push-requires-clause-free c =
    free_in_copy c.args.messages.now c.loop-signed.copy c.loop-signed.signed-index c.in_ok-try_clone.field-0 c.signed-item.result c.loop-signed.invariant
    (c.in_ok-try_clone.ensures ∙ c.signed-item.is) c.requires.differ (omega (arith, c.loop-signed-test.true))
