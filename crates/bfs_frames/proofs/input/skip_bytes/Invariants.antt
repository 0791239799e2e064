use Rattle.std.proofs.Common.{◌-◌, ◌≤◌}
use Rattle.bfs_frames.specs.Frames.{ReadsOver}
use Rattle.bfs_frames.proofs.input.skip_bytes.Given as goal

abbrev pub invariant-loop-left : goal.invariant-loop-left
invariant-loop-left g l = record {
  within : l.left ≤ l.len;
  read_over : ReadsOver (g.R.Read.remaining l.fn.reader) (g.R.Read.remaining l.reader) (l.len - l.left);
}

abbrev pub decreases-loop-left : goal.decreases-loop-left
decreases-loop-left g l = l.left
