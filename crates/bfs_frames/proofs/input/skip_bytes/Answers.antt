use Rattle.std.proofs.Common.{◌≡◌, length, arith}
use Rattle.std.proofs.lemmas.Grind.{common_steps}
use Rattle.bfs_frames.proofs.Reading.{over_more}
use Rattle.bfs_frames.proofs.input.skip_bytes.Goals as goal

pub loop-left-preserved : goal.loop-left-preserved
loop-left-preserved g c =
    let filled : length c.fill.new.buffer ≡ c.min-count.result = grind (arith, common_steps, c.fill.auto.buffer) in
    record {
      within = omega arith;
      read_over = over_more _ _ _ _ c.min-count.result _ _ c.loop-left.invariant.read_over c.in_ok-fill.ensures.filled filled (omega arith);
    }
