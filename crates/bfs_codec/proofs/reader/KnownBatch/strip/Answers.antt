use Rattle.std.proofs.Common.{sym, ◌∙◌}
use Rattle.std.specs.Arc.{arc_value}
use Rattle.bfs_codec.proofs.Known.{spelled_again}
use Rattle.bfs_codec.proofs.reader.KnownBatch.strip.Goals as goal

pub returns : goal.returns
returns c =
    let known = c.self.invariant in
    rw (← c.self.view_is) (spelled_again c.args.digest.now c.args.bytes.now c.self.inside.bytes.now (arc_value c.self.inside.batch) c.strip_prefix.result known.0 known.1 (rw c.self.view_is (sym c.has_digest.ensures ∙ c.if-not-has_digest.false)) c.strip_prefix.ensures.cases)
