use Rattle.std.proofs.Common.{arith}
use Rattle.bfs_blocks.proofs.BlockLemmas.{one_kept}
use Rattle.bfs_blocks.proofs.keeping.keep_all.Goals as goal

pub returns-in_err-hash : goal.returns-in_err-hash
returns-in_err-hash c = one_kept c.loop-number.blocks c.args.blocks.now c.loop-number.number c.index-blocks-number.result c.hash.new.self (omega arith) c.loop-number.invariant c.hash.ensures

pub loop-number-preserved : goal.loop-number-preserved
loop-number-preserved c = one_kept c.loop-number.blocks c.args.blocks.now c.loop-number.number c.index-blocks-number.result c.hash.new.self (omega arith) c.loop-number.invariant c.hash.ensures
