-- What was there is there still.
use Rattle.std.proofs.Common.{◌≡◌, ℕ, ◌≤◌, ◌-◌, ◌+◌, length}
use Rattle.bfs_parallel.specs.Levels.{bucket_at}
use Rattle.bfs_parallel.proofs.levels.grow.Given as goal

abbrev pub invariant-loop-alloc : goal.invariant-loop-alloc
invariant-loop-alloc l = record {
  no_shorter : length l.fn.levels.items ≤ length l.levels.items;
  same : (other : ℕ) → bucket_at l.levels.items other ≡ bucket_at l.fn.levels.items other;
}

abbrev pub decreases-loop-alloc : goal.decreases-loop-alloc
decreases-loop-alloc l = (l.level + 1) - length l.levels.items
