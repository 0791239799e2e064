use Rattle.std.proofs.Common.{◌≡◌, ◌-◌, List, Option, true, length}
use Rattle.bfs_model.specs.Bytes.Formats.{items_from}
use Rattle.bfs_model.proofs.Public.{with_front}
use Rattle.bfs_replies.specs.Tables as model
use Rattle.bfs_replies.specs.TextReading.{last_from}
use Rattle.bfs_replies.proofs.skipping.skip_lasts.Given as goal

-- so many were passed over, and what is left is behind them
abbrev pub invariant-loop-last : goal.invariant-loop-last
invariant-loop-last l = (l.left.strict ≡ true) × ((passed : List (Option model.Last)) × (length passed ≡ l._last) × (with_front passed (items_from last_from (l.count - l._last) l.left.left) ≡ items_from last_from l.count l.fn.bytes))
