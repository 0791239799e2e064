-- What is read is no longer than it may be.
use Rattle.std.proofs.Common.{sym, ap, ◌∙◌}
use Rattle.bfs_model.specs.Bytes.Items.{opaque_at}
use Rattle.bfs_model.proofs.Public.{short_bytes}
use Rattle.bfs_codec.proofs.reader.MessageReader.bytes.Goals as goal

pub returns-clause-within : goal.returns-clause-within
returns-clause-within c =
    short_bytes c.args.most c.self.inside.reader.left c.in_ok-opaque.field-0.now c.opaque.new.self.left
    (ap (λ strict. opaque_at strict c.args.most c.self.inside.reader.left) (sym c.self.invariant) ∙ c.in_ok-opaque.ensures.0)
