-- One request more is answered.
use Rattle.std.proofs.Common.{◌+◌, drop, arith}
use Rattle.bfs_replies.specs.Classes.{timestamps_of}
use Rattle.bfs_outcome.proofs.Telling.{cut, goes_on}
use Rattle.bfs_outcome.proofs.answering.answer_all.Goals as goal

pub loop-signed-preserved : goal.loop-signed-preserved
loop-signed-preserved c =
    let requests = c.args.requests.now in
    let i = c.loop-signed.signed-index in
    let signed = c.signed-item.result in
    rw (c.take-class.ensures.now, c.in_ok-answer_one.ensures.to_record, c.in_ok-answer_one.ensures.to_answer, c.take-class.ensures.class, c.client.ensures, c.timestamp.ensures)
    (goes_on c.loop-signed.timestamps (timestamps_of c.args.table.now) c.args.table.now signed (drop (i + 1) requests) requests c.args.replies.now c.loop-signed.executed.to_answer.items c.loop-signed.executed.to_record.items
    (rw (cut requests i signed (omega arith) c.signed-item.is) at c.loop-signed.invariant))
