-- What is read is no longer than it may be.
use Rattle.std.proofs.Common.{sym, ap, ◌∙◌}
use Rattle.bfs_model.specs.Bytes.Items.{opaque_at}
use Rattle.bfs_model.specs.Server.Limits.{most_reply_bytes}
use Rattle.bfs_model.proofs.Public.{short_bytes}
use Rattle.bfs_replies.proofs.reading.read_reply.Goals as goal

pub returns-clause-short : goal.returns-clause-short
returns-clause-short c =
    short_bytes most_reply_bytes c.args.reader.now.left c.in_ok-opaque.field-0.now c.opaque.new.self.left
    (ap (λ strict. opaque_at strict most_reply_bytes c.args.reader.now.left) (sym c.requires) ∙ c.in_ok-opaque.ensures.0)
