use Rattle.std.proofs.Common.{◌-◌, arith}
use Rattle.bfs_blocks.proofs.BlockLemmas.{last_extended}
use Rattle.bfs_blocks.proofs.growing.extend_last.Goals as goal

pub returns : goal.returns
returns c =
    let blocks = c.args.blocks.now.items in
    let done = last_extended c.extend.result blocks (c.len-last.result - 1) c.index_mut.result.now c.extend.new.self c.args.bytes.now c.requires.filled (omega (arith, c.requires.some, c.len-last.ensures, c.args.blocks.now.ok.0)) c.index_mut.ensures.value c.requires.room c.extend.ensures.ok c.extend.ensures.err in
    record { filled = done.filled; ok = done.ok; err = done.err }
