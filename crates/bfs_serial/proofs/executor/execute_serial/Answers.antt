-- What is put back after the batch is live still, and each request has its reply.
use Rattle.std.proofs.Common.{subst}
use Rattle.bfs_model.specs.Server.Serial.{execute}
use Rattle.bfs_model.specs.Server.Stored.{IsTime}
use Rattle.bfs_model.proofs.Public.{batches_keep_live, execute_keeps, replies_counted}
use Rattle.bfs_serial.specs.Parts.{file_system_of}
use Rattle.bfs_serial.proofs.executor.execute_serial.Goals as goal

pub put_parts-requires-clause-live : goal.put_parts-requires-clause-live
unfolding execute
put_parts-requires-clause-live c =
    rw (c.in-Ok.ensures.inodes, c.after-next_ordinal.ensures, c.effective_after-time.ensures, c.len.ensures.value, c.requests.ensures.value, c.time-proposed.ensures)
    (batches_keep_live execute_keeps (file_system_of c.in-Some.tree c.in-Some.next_ordinal c.in-Some.last_time) c.args.batch.now (subst IsTime c.time-proposed.ensures c.is_in_range.ensures) c.requests.ensures.bytes c.in-Some.ensures.live)

pub returns-in-Ok-clause-count : goal.returns-in-Ok-clause-count
unfolding execute
returns-in-Ok-clause-count c =
    rw (c.in-Ok.ensures.replies, c.effective_after-time.ensures, c.requests.ensures.value, c.time-proposed.ensures)
    (replies_counted (file_system_of c.in-Some.tree c.in-Some.next_ordinal c.in-Some.last_time) c.args.batch.now)
