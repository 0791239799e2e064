use Rattle.std.proofs.Common.{length, replicate, ap, arith}
use Rattle.std.proofs.lemmas.List.{length-append}
use Rattle.bfs_blocks.specs.Blocks.{bytes_of}
use Rattle.bfs_blocks.proofs.PutLemmas.{zeros_step}
use Rattle.bfs_blocks.proofs.filling.fill.Goals as goal

pub loop-left-preserved : goal.loop-left-preserved
loop-left-preserved c =
    let before = bytes_of c.loop-left.blocks.items in
    let grown = c.in_ok-filled.ensures.ok in
    record {
      filled = c.in_ok-filled.ensures.filled;
      more = omega (arith, c.loop-left.invariant.more, length-append before (replicate c.in_ok-filled.filled 0), ap length grown);
      bytes = zeros_step c.loop-left.left c.in_ok-filled.filled before (bytes_of c.fill_some.new.blocks.items) _ c.in_ok-filled.ensures.some.1 grown c.loop-left.invariant.bytes;
    }
