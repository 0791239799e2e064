-- A request keeps a file system well formed, and its reply is short.
use Rattle.std.proofs.Common.{length, ◌≤◌}
use Rattle.std.proofs.lemmas.Result.{IfOk-weaker}
use Rattle.bfs_model.specs.Server.Limits.{most_reply_bytes}
use Rattle.bfs_model.specs.Server.Serial.{ordinal_after}
use Rattle.bfs_model.specs.Server.WellFormed.{IsWellFormed}
use Rattle.bfs_model.proofs.Public.{request_keeps, reply_is_short}
use Rattle.bfs_serial.proofs.executor.answer_next.Goals as goal

pub returns-clause-formed : goal.returns-clause-formed
returns-clause-formed g c =
    IfOk-weaker c.answer.result _ (λ reply. IsWellFormed (record { tree = g.S.Store.inodes c.answer.new.store; next_ordinal = ordinal_after c.args.ordinal 1; last_time = c.args.time }))
    (λ reply done. request_keeps (g.S.Store.inodes c.args.store.now) (g.S.Store.inodes c.answer.new.store) c.args.ordinal c.args.time c.args.request.now reply.items c.requires.formed done) c.answer.ensures.done

pub returns-clause-short : goal.returns-clause-short
returns-clause-short g c =
    IfOk-weaker c.answer.result _ (λ reply. length reply.items ≤ most_reply_bytes)
    (λ reply done. reply_is_short (g.S.Store.inodes c.args.store.now) (g.S.Store.inodes c.answer.new.store) c.args.ordinal c.args.time c.args.request.now reply.items c.requires.formed done) c.answer.ensures.done
