use Rattle.std.proofs.Common.{◌≡◌, ◌-◌, length}
use Rattle.bfs_model.specs.Bytes.Formats.{items_from}
use Rattle.bfs_model.proofs.Public.{with_front}
use Rattle.bfs_codec.proofs.reader.MessageReader.parts.Given as goal

abbrev pub invariant-loop-part : goal.invariant-loop-part
invariant-loop-part g l =
    (length l.parts.items ≡ l._part) × (with_front l.parts.items (items_from g.T.Read.from (l.count - l._part) l.self) ≡ items_from g.T.Read.from l.count l.fn.self)
