use Rattle.std.proofs.Common.{◌-◌, ◌%◌, length, ap, arith}
use Rattle.std.proofs.lemmas.List.{length-append}
use Rattle.bfs_blocks.specs.Bytes.{block_bytes}
use Rattle.bfs_blocks.proofs.ReadLemmas.{kept_front, read_step}
use Rattle.bfs_blocks.proofs.files.FileBlocks.read_pieces.Goals as goal

pub returns-in_err-extend_from_slice-clause-err : goal.returns-in_err-extend_from_slice-clause-err
returns-in_err-extend_from_slice-clause-err c =
    kept_front c.from_residual.result c.args.out.now.items c.loop-left.out.items c.extend_from_slice.new.self.items _ _ c.loop-left.invariant.more c.loop-left.invariant.bytes c.in_err-extend_from_slice.ensures.items

pub loop-left-preserved : goal.loop-left-preserved
loop-left-preserved c =
    let first = c.split_at.result.0.now in
    record {
      more = omega (arith, c.loop-left.invariant.more, ap length c.in_ok-extend_from_slice.ensures.items, length-append c.loop-left.out.items first);
      within = omega (arith, c.loop-left.invariant.within);
      bytes = read_step c.loop-left.left c.loop-left.at c.min.result (block_bytes - c.loop-left.at % block_bytes) c.args.self.now c.loop-left.out.items c.extend_from_slice.new.self.items first c.piece-piece.result.now _ c.piece-piece.ensures c.min.ensures c.split_at.ensures.front c.in_ok-extend_from_slice.ensures.items c.loop-left.invariant.bytes;
    }
