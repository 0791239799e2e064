-- The latest PRE-PREPARE for each of some numbers that is prepared, on the way through a log.
use Rattle.std.specs.Prelude.{◌≡◌, ℕ, ◌+◌, ◌<◌, List, length, get_or, Option, None}
use Rattle.bfs_messages.specs.Messages as model
use Rattle.bfs_messages.specs.declared.signed.Signed.{Signed}
use Rattle.bfs_log.specs.Logs.{Log}
use Rattle.bfs_log.specs.Showing.{latest, prepared_among}

-- by the numbers behind low, of the messages passed
pub record AreLatest (f me low count : ℕ) (log passed : Log) (found : List (Option (Signed model.PrePrepare))) : Type 0 where
  pub as_many : length found ≡ count
  pub each : (k : ℕ) → k < count → get_or found k None ≡ latest (prepared_among f me log (low + 1 + k) passed)
