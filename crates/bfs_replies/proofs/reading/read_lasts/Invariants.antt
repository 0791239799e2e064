use Rattle.std.proofs.Common.{◌≡◌, ◌-◌, true}
use Rattle.bfs_model.specs.Bytes.Formats.{items_from}
use Rattle.bfs_model.proofs.Public.{with_front}
use Rattle.bfs_replies.specs.TextReading.{last_from}
use Rattle.bfs_replies.proofs.reading.read_lasts.Given as goal

abbrev pub invariant-loop-last : goal.invariant-loop-last
invariant-loop-last l = (l.reader.strict ≡ true) × (with_front l.lasts.items (items_from last_from (l.count - l._last) l.reader.left) ≡ items_from last_from l.count l.fn.reader.left)
