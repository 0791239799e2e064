use Rattle.std.proofs.Common.{◌≡◌, ℕ, ◌+◌, take, drop, filter}
use Rattle.bfs_pending.specs.Counts.{counted}
use Rattle.bfs_pending.specs.Indexes.{is_found}
use Rattle.bfs_pending.specs.Requests.{count_of}
use Rattle.bfs_pending.proofs.counting.discount_gone.Given as goal

-- of those so far the ones that are found are counted, and all behind them
abbrev pub invariant-loop-signed : goal.invariant-loop-signed
invariant-loop-signed l = (client : ℕ) → counted l.counts client ≡ count_of client (filter (is_found l.last) (take l.signed-index l.waiting)) + count_of client (drop l.signed-index l.waiting)
