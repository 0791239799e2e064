use Rattle.std.proofs.Common.{◌≡◌, ◌-◌, length}
use Rattle.bfs_model.specs.Bytes.Formats.{items_from}
use Rattle.bfs_model.proofs.Public.{with_front}
use Rattle.bfs_codec.specs.Parts.{digest_from}
use Rattle.bfs_codec.proofs.parts.read_entries.Given as goal

abbrev pub invariant-loop-entry : goal.invariant-loop-entry
invariant-loop-entry l = (length l.hashes ≡ l._entry) × (with_front l.hashes (items_from digest_from (l.count - l._entry) l.reader) ≡ items_from digest_from l.count l.fn.reader)
