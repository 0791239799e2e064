-- The calls so far, and those of the requests that are left.
use Rattle.std.proofs.Common.{◌≡◌, ◌++◌, ◌≤◌, drop, length}
use Rattle.bfs_replies.specs.Classes.{timestamps_of}
use Rattle.bfs_outcome.specs.Inside.Passes.{new_calls}
use Rattle.bfs_outcome.proofs.news.new_requests.Given as goal

abbrev pub invariant-loop-signed : goal.invariant-loop-signed
invariant-loop-signed l =
    (l.batch.time ≡ l.fn.time)
    × (length l.batch.requests ≤ l.signed-index)
    × (l.batch.requests ++ new_calls l.timestamps (drop l.signed-index l.requests) ≡ new_calls (timestamps_of l.table) l.requests)
