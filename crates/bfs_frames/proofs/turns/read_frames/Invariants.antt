use Rattle.bfs_frames.specs.Frames.{ReadsFrames}
use Rattle.bfs_frames.proofs.turns.read_frames.Given as goal

abbrev pub invariant-loop : goal.invariant-loop
invariant-loop g l = ReadsFrames l.limits (g.R.Read.remaining l.fn.reader) (g.R.Read.remaining l.reader) l.counter l.frames.items
