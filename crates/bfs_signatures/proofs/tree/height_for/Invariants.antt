use Rattle.std.proofs.Common.{ℕ, ◌-◌, ◌^◌, ◌<◌, ◌≤◌}
use Rattle.bfs_signatures.specs.Signature.{most_height}
use Rattle.bfs_signatures.proofs.tree.height_for.Given as goal

abbrev pub invariant-loop-height : goal.invariant-loop-height
invariant-loop-height l = record {
  few : l.height ≤ most_height;
  below : (lower : ℕ) → lower < l.height → 2 ^ lower < l.count;
}

abbrev pub decreases-loop-height : goal.decreases-loop-height
decreases-loop-height l = most_height - l.height
