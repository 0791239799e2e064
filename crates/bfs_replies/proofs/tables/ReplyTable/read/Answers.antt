use Rattle.std.proofs.Common.{sym, ap, ◌∙◌, arith}
use Rattle.bfs_model.specs.Bytes.Items.{Input, word_at}
use Rattle.bfs_replies.proofs.Exact.{read_kept}
use Rattle.bfs_replies.proofs.tables.ReplyTable.read.Goals as goal

pub invariant_of-result : goal.invariant_of-result
invariant_of-result c =
    read_kept c.args.bytes.now c.in-Ok.count c.u32.new.self.left c.in-Ok-read_lasts.clients.items c.read_lasts.new.reader.left (λ k. (c.type_inv.bytes k).fits)
    (ap (λ (reader : Input). word_at reader.left) (sym c.strict-reader.ensures) ∙ c.in-Ok.ensures.0) (omega (arith, c.if-count-gt-MOST_CLIENTS.false)) c.in-Ok-read_lasts.ensures
