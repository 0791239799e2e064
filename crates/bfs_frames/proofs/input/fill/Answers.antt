use Rattle.std.proofs.Common.{rules}
use Rattle.bfs_frames.proofs.Filling.{filled_kept, filled_more}
use Rattle.bfs_frames.proofs.input.fill.Goals.{in-Ok, in-Err+else-ne}
use Rattle.bfs_frames.proofs.input.fill.Goals as goal

pub loop-preserved : goal.loop-preserved
loop-preserved g c = elim c.match-read.branch [
  | in-Ok w ↦ rw w.at-is (record {
    within = search rules;
    filled = filled_more _ _ _ c.loop.at w.in-Ok.count c.loop.buffer c.read.new.buf c.loop.invariant.within w.in-Ok.ensures.bound.0
        c.loop.invariant.filled w.in-Ok.ensures.bytes.0;
  })
  | in-Err+else-ne w ↦ rw w.at-is (record {
    within = search rules;
    filled = filled_kept _ _ _ c.loop.at c.loop.buffer c.read.new.buf c.loop.invariant.within c.loop.invariant.filled w.in-Err.ensures.bytes;
  })
]
