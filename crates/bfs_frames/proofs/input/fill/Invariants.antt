use Rattle.std.proofs.Common.{◌≤◌, length, take}
use Rattle.std.specs.Io.KnownBytes.{Consumes}
use Rattle.bfs_frames.proofs.input.fill.Given as goal

abbrev pub invariant-loop : goal.invariant-loop
invariant-loop g l = record {
  within : l.at ≤ length l.buffer;
  filled : Consumes (g.R.Read.remaining l.fn.reader) (g.R.Read.remaining l.reader) (take l.at l.buffer);
}
